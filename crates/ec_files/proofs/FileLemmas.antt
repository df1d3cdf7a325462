-- What an answer and a write say of files.
use Rattle.std.proofs.Common.{◌≡◌, ◌≢◌, ℕ, cond, false, List, refl, ap, ◌∙◌, arith, Option, Some, None, Result, Ok, Err}
use Rattle.std.specs.Ordering.{nat_cmp, is_eq}
use Rattle.std.specs.Cmp.{tied_itself}
use Rattle.std.specs.Cmp.Lexicographic.{slice_cmp, nat_list_cmp_total}
use Rattle.std.specs.FinMap as map
use Rattle.std.specs.declared.cmp.Ordering.{Ordering}
use Rattle.std.specs.declared.cmp.Ordering.TheVariants.{Less, Equal, Greater}
use Rattle.ec_files.specs.Files.{FileMap, AnswersFor, KeepsOthers}
use Rattle.ec_files.specs.Laws.{IsExact}
use Rattle.ec_files.specs.declared.fault.FileFault.{FileFault}
use Rattle.ec_files.specs.declared.fault.FileFault.TheVariants.{Missing, TooLong, Failed, NoMemory}

pub exact : (file : Option (List ℕ)) (result : Result (List ℕ) FileFault) → AnswersFor file result → result ≢ Err Failed → result ≢ Err NoMemory → IsExact file result
exact None (Ok bytes) is _ _ = grind arith
exact (Some file) (Ok bytes) is _ _ = grind arith
exact None (Err Missing) is _ _ = grind arith
exact (Some file) (Err Missing) is _ _ = grind arith
exact None (Err TooLong) is _ _ = absurd is
exact (Some file) (Err TooLong) is _ _ = grind arith
exact file (Err Failed) is here _ = absurd (here refl)
exact file (Err NoMemory) is _ here = absurd (here refl)

pub written : (old : FileMap) (name bytes : List ℕ) → map.get (map.insert old name bytes) name ≡ Some bytes
written old name bytes =
    map.get-insert nat_list_cmp_total old name bytes name
    ∙ ap (λ r. cond (is_eq r) (Some bytes) (map.get old name)) (tied_itself nat_list_cmp_total name)

apart : (r : Ordering) → (r ≡ Equal → ⊥) → is_eq r ≡ false
apart Less differs = refl
apart Equal differs = absurd (differs refl)
apart Greater differs = refl

pub others_stay : (old : FileMap) (name bytes : List ℕ) → KeepsOthers old (map.insert old name bytes) name
others_stay old name bytes other differs =
    map.get-insert nat_list_cmp_total old name bytes other
    ∙ ap (λ b. cond b (Some bytes) (map.get old other))
    (apart (slice_cmp nat_cmp other name) (λ e. differs (map.slice_cmp-IsAntisymmetric map.nat_cmp-IsAntisymmetric other name e)))
