use Rattle.std.specs.Prelude.{codes}
use Rattle.ec_tool.proofs.WordLemmas.{from_none, wrong_encode}
use Rattle.ec_tool.proofs.words.encode_request.Goals as goal

pub returns-in-None : goal.returns-in-None
returns-in-None c = λ words are. wrong_encode words _ are (λ job ask. from_none _ c.in_ok-coding.ensures.none c.in-None.is (codes "encode") words job are ask)
