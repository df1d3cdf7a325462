use Rattle.std.proofs.Common.{sym, ◌∙◌, arith}
use Rattle.ec_code.proofs.LrcRefusalLemmas.{all_data_first, long_mapping_first}
use Rattle.lrc_layers.proofs.LayoutFaultLemmas.{mapping_is}
use Rattle.lrc_layers.proofs.layout.mapping_fault.Goals as goal

pub returns-then-data_chunks-mapping-clause-refused : goal.returns-then-data_chunks-mapping-clause-refused
returns-then-data_chunks-mapping-clause-refused c =
    all_data_first c.args.profile.now c.args.mapping.now c.args.layers.now
    (record { of_lrc = c.requires.plugin; written = c.requires.written; first = c.requires.mapping; second = c.requires.layers })
    (omega (arith, c.data_chunks_of-data_chunks.ensures, c.if-data_chunks-lt1.false)) (sym c.data_chunks_of-data_chunks.ensures ∙ c.if-data_chunks-mapping.true)

pub returns-then-mapping-gt16-clause-refused : goal.returns-then-mapping-gt16-clause-refused
returns-then-mapping-gt16-clause-refused c =
    long_mapping_first c.args.profile.now c.args.mapping.now c.args.layers.now
    (record { of_lrc = c.requires.plugin; written = c.requires.written; first = c.requires.mapping; second = c.requires.layers })
    (omega (arith, c.data_chunks_of-data_chunks.ensures, c.if-data_chunks-lt1.false)) (λ e. c.if-data_chunks-mapping.false (c.data_chunks_of-data_chunks.ensures ∙ e))
    c.if-mapping-gt16.true

pub returns-else-mapping-gt16-clause-passes : goal.returns-else-mapping-gt16-clause-passes
returns-else-mapping-gt16-clause-passes c = λ _.
    mapping_is c.args.mapping.now (record {
      some_data = omega (arith, c.data_chunks_of-data_chunks.ensures, c.if-data_chunks-lt1.false);
      some_coding = λ e. c.if-data_chunks-mapping.false (c.data_chunks_of-data_chunks.ensures ∙ e);
      few = c.if-mapping-gt16.false;
    })
