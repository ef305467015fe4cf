use Rattle.request.proofs.Requests.{one_request}
use Rattle.request.proofs.laws.requests_are_one.Goals as goal

pub returns : goal.returns
returns c = one_request
