use Rattle.std.proofs.Common.{◌≡◌, ◌∙◌, length, drop, rules, arith, refl}
use Rattle.byteorder.specs.Endian.{big_number}
use Rattle.byteorder.specs.Numbers.{big_from-take}
use Rattle.slot_journal.proofs.HeadLemmas.{head_is_read}
use Rattle.slot_journal.proofs.header.Header.decode.Goals as goal

pub returns-clause-value : goal.returns-clause-value
returns-clause-value c =
    let head = c.args.head.now in
    let unit : c.read_u32.result ≡ big_number 4 (drop 11 head) = search rules in
    let serial : c.read_u64.result ≡ big_number 8 (drop 15 head) = c.read_u64.ensures ∙ big_from-take 0 8 8 (drop 15 head) (omega arith) in
    let long : length head ≡ 23 = omega arith in
    head_is_read _ head long c.fits-head c.in_ok-owner.ensures refl refl refl refl unit serial
