mod Draining
mod Gauging
mod Ran
mod Viewing
mod Maps
mod Unread
mod Together
