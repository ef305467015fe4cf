use Rattle.std.proofs.Common.{is_some, sym, ap, ◌∙◌, arith, rules, to_z-of_z}
use mir.Val.{SFits}
use Rattle.std.proofs.lemmas.Bool.{false≢true}
use Rattle.terrain.proofs.Heights.{height_in, height_width}
use Rattle.terrain.specs.declared.place.Place.{Place}
use Rattle.tiles.proofs.SpotWays.{inner_shows}
use Rattle.tiles.specs.Windows.{Shows}
use Rattle.drain.specs.Codes.{CountedSpots}
use Rattle.drain.proofs.WindowCodes.{IsSeen, checked, code_none, heights_within, lower, seen, shown_height}
use Rattle.drain.proofs.codes.CountedWindow.code_at.Goals as goal
use Rattle.drain.proofs.codes.CountedWindow.code_at.Goals.{After-deref-2}

pub returns-in_default-clause-code : goal.returns-in_default-clause-code
returns-in_default-clause-code c = λ p shows.
    let w = c.args.self.now in
    let are = rw c.self.view_is at c.self.invariant.1 in
    let none = sym (shown_height w c.args.spot p are c.requires shows) ∙ sym c.level.ensures ∙ c.in_default.is in (
      λ q side. absurd (false≢true (sym (ap is_some none) ∙ side.next.from_data)),
      λ _. code_none w.terrain p none,
    )

module _ (c : After-deref-2) where
  is_seen : (p : Place) → Shows c.args.self.now.bounds c.args.spot p →
      IsSeen c.args.self.now.terrain c.args.self.now.all p c.deref.result.now c.deref-2.result.now c.around-at.result
      c.in-Some.level c.count-own.result
  is_seen p shows = seen p c.self.view_is c.self.invariant.1 c.requires shows c.deref.ensures.value
      c.deref-2.ensures.value c.around-at.ensures.value (sym c.level.ensures ∙ c.in-Some.is) c.count-own.ensures.value

  fits : SFits height_width c.in-Some.level
  fits = search rules

pub data_code-requires-clause-level : goal.data_code-requires-clause-level
data_code-requires-clause-level c =
    let p = inner_shows c.args.self.now.bounds c.args.spot c.requires in
    let before = (goal.at.data_code-requires-clause-level c).After-deref-2 in
    let is = is_seen before p.0 p.1 in
    rw (to_z-of_z (fits before)) (height_in c.args.self.now.terrain p.0 c.in-Some.level is.lawful is.high)

pub data_code-requires-clause-heights : goal.data_code-requires-clause-heights
data_code-requires-clause-heights c =
    let p = inner_shows c.args.self.now.bounds c.args.spot c.requires in
    heights_within (is_seen (goal.at.data_code-requires-clause-heights c).After-deref-2 p.0 p.1)

pub returns-in-Ok-clause-code : goal.returns-in-Ok-clause-code
returns-in-Ok-clause-code c = λ p shows.
    let before = (goal.at.returns-in-Ok-clause-code c).After-deref-2 in
    let found = rw (to_z-of_z (fits before)) at c.in-Ok.ensures in
    checked (is_seen before p shows) c.in-Ok.code found.still found.down found.onward

pub returns-in-Err-clause-lower : goal.returns-in-Err-clause-lower
returns-in-Err-clause-lower c =
    let before = (goal.at.returns-in-Err-clause-lower c).After-deref-2 in
    let top = ap (λ (v : CountedSpots). v.bounds.top) c.self.view_is in
    let left = ap (λ (v : CountedSpots). v.bounds.left) c.self.view_is in
    lower (is_seen before _ (omega (arith, top, c.requires.first_row), omega (arith, left, c.requires.first_col)))
    c.in-Err.count (rw (to_z-of_z (fits before)) at c.in-Err.ensures.lower)
