use Rattle.std.proofs.Common.{◌≡◌, ◌∙◌, sym, ap, arith}
use Rattle.byteorder.specs.Endian.{big_bytes, big_number}
use Rattle.slot_journal.proofs.SpellingLemmas.{spelled}
use Rattle.slot_journal.proofs.record.read_body_len.Goals as goal

pub returns : goal.returns
returns c =
    let rest = c.args.rest.now in
    let number : c.read_u32-len.result ≡ big_number 4 rest = c.read_u32-len.ensures in
    record {
      whole = c.if-rest-lt4.false;
      is = sym (spelled rest c.if-rest-lt4.false (λ i. (c.type_inv.rest i).fits)) ∙ ap (λ n. big_bytes 4 n) (sym number);
      some = c.if-len-lt1.false;
      most = c.if-len-gt-MAX_BODY.false;
      within = omega arith;
    }
