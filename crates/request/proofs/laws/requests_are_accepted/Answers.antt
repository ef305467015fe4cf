use Rattle.request.proofs.Requests.{request_accepted}
use Rattle.request.proofs.laws.requests_are_accepted.Goals as goal

pub returns : goal.returns
returns c = request_accepted
