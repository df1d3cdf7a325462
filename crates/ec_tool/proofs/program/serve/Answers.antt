use Rattle.ec_tool.proofs.DoneLemmas.{encode_is_done, decode_is_done, some_wanted, ends_with_5}
use Rattle.ec_tool.proofs.program.serve.Goals as goal

pub decode-requires-clause-some : goal.decode-requires-clause-some
decode-requires-clause-some g c = some_wanted c.requires.asked.0 c.args.request.now c.in-Decode.job c.in-Decode.is c.requires.asked.1

pub returns-in-Encode-clause-done : goal.returns-in-Encode-clause-done
returns-in-Encode-clause-done g c = encode_is_done _ c.args.request.now c.in-Encode.job _ _ _ c.in-Encode.is c.encode.ensures.value c.end.ensures.ends

pub returns-in-Encode-clause-status_5 : goal.returns-in-Encode-clause-status_5
returns-in-Encode-clause-status_5 g c = λ e. c.encode.ensures.failed (ends_with_5 _ c.end.result.0 c.end.ensures.ends.statuses e)

pub returns-in-Decode-clause-done : goal.returns-in-Decode-clause-done
returns-in-Decode-clause-done g c = decode_is_done _ c.args.request.now c.in-Decode.job _ _ _ c.in-Decode.is c.decode.ensures.value c.end-in-Decode.ensures.ends

pub returns-in-Decode-clause-status_5 : goal.returns-in-Decode-clause-status_5
returns-in-Decode-clause-status_5 g c = λ e. c.decode.ensures.failed (ends_with_5 _ c.end-in-Decode.result.0 c.end-in-Decode.ensures.ends.statuses e)
