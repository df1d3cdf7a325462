use Rattle.std.proofs.Common.{◌++◌, codes, ap, sym, ◌∙◌, append_assoc, append-nil}
use Rattle.ec_tool.specs.Parameters.{parameter_line}
use Rattle.ec_tool.proofs.parameters.push_all.Goals as goal

pub returns : goal.returns
returns c = λ code shape.
    let one = parameter_line code (codes "chunk_count") in
    let two = parameter_line code (codes "data_chunk_count") in
    let three = parameter_line code (codes "coding_chunk_count") in
    let before = c.args.list.now.items in
    c.in_ok-push_parameter-3.ensures code shape
    ∙ ap (λ l. l ++ three) (c.in_ok-push_parameter-2.ensures code shape ∙ ap (λ l. l ++ two) (c.in_ok-push_parameter.ensures code shape))
    ∙ append_assoc (before ++ one) two three ∙ append_assoc before one (two ++ three)
    ∙ ap (λ rest. before ++ (one ++ (two ++ rest))) (sym (append-nil three))
