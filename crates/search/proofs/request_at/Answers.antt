-- `search::request_at` meets its contract.
use Rattle.search.proofs.Running.{request_part, request_long}
use Rattle.search.proofs.request_at.Goals as goal

pub returns : goal.returns
returns c =
    (request_part _ _ _, request_long _ _ _ c.requires.1)
