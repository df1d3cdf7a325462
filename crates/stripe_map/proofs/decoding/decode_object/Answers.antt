use Rattle.std.proofs.Common.{rules, ◌≡◌, false, true, length, ℕ, sym, ◌∙◌, subst, refl}
use Rattle.ec_model.specs.Stripes.{shard_len}
use Rattle.stripe_map.specs.Decoding.{AllHaveLength, AreDataLists, made_lists}
use Rattle.stripe_map.proofs.DecodingLemmas.{joined_back}
use Rattle.stripe_map.proofs.MadeLemmas.{made_are_data_lists}
use Rattle.stripe_map.proofs.DecodingMaskLemmas.{mask_below, decide_data}
use Rattle.stripe_map.proofs.decoding.decode_object.Goals as goal

never : false ≡ true → ⊥
never e = cc

pub decides_data-requires : goal.decides_data-requires
decides_data-requires g c =
    let code = (goal.Code-dyn g c.args.code.now).meaning c.args.code.now.1 in
    mask_below c.args.chunks.now code.n c.mask-from.result.0 c.mask-from.ensures.value c.requires.below

pub returns-then-not-decides_data-clause-not_decided : goal.returns-then-not-decides_data-clause-not_decided
returns-then-not-decides_data-clause-not_decided g c =
    let code = (goal.Code-dyn g c.args.code.now).meaning c.args.code.now.1 in
    let known = decide_data code c.args.chunks.now c.mask-from.result.0 c.mask-from.ensures.value in
    (λ _ d. never (c.if-not-decides_data.ensures.value.1 (known.1 d)), λ _. refl)

pub returns-then-not-decides_data-clause-lengths : goal.returns-then-not-decides_data-clause-lengths
returns-then-not-decides_data-clause-lengths g c =
    let code = (goal.Code-dyn g c.args.code.now).meaning c.args.code.now.1 in
    let known = decide_data code c.args.chunks.now c.mask-from.result.0 c.mask-from.ensures.value in
    (λ e. absurd cc, λ h. absurd (never (c.if-not-decides_data.ensures.value.1 (known.1 h.0))))

pub returns-then-not-have_length-clause-not_decided : goal.returns-then-not-have_length-clause-not_decided
returns-then-not-have_length-clause-not_decided g c =
    let code = (goal.Code-dyn g c.args.code.now).meaning c.args.code.now.1 in
    let known = decide_data code c.args.chunks.now c.mask-from.result.0 c.mask-from.ensures.value in
    (λ e. absurd cc, λ h. absurd (h (known.0 (c.if-not-decides_data.ensures.value.0 refl))))

pub returns-then-not-have_length-clause-lengths : goal.returns-then-not-have_length-clause-lengths
returns-then-not-have_length-clause-lengths g c =
    let code = (goal.Code-dyn g c.args.code.now).meaning c.args.code.now.1 in
    let known = decide_data code c.args.chunks.now c.mask-from.result.0 c.mask-from.ensures.value in
    (λ _. (known.0 (c.if-not-decides_data.ensures.value.0 refl), λ h. never (c.if-not-have_length.ensures.1 (subst (AllHaveLength c.args.chunks.now) (sym c.shard_len-long.ensures) h))), λ _. refl)

pub data_rows-rows-requires-clause-below : goal.data_rows-rows-requires-clause-below
data_rows-rows-requires-clause-below g c =
    let code = (goal.Code-dyn g c.args.code.now).meaning c.args.code.now.1 in
    mask_below c.args.chunks.now code.n c.mask-from.result.0 c.mask-from.ensures.value c.requires.below

pub returns-in_err-whole-clause-not_decided : goal.returns-in_err-whole-clause-not_decided
returns-in_err-whole-clause-not_decided g c =
    let code = (goal.Code-dyn g c.args.code.now).meaning c.args.code.now.1 in
    let decided = (decide_data code c.args.chunks.now c.mask-from.result.0 c.mask-from.ensures.value).0 (c.if-not-decides_data.ensures.value.0 refl) in
    search rules

pub returns-clause-value : goal.returns-clause-value
returns-clause-value g c = λ bytes of.
    let code = (goal.Code-dyn g c.args.code.now).meaning c.args.code.now.1 in
    let unit = c.args.g.unit in
    let k = c.args.g.k in
    let rows = c.data_rows-rows.result in
    let chunks = c.args.chunks.now in
    let long = shard_len k unit c.args.size in
    let same : long ≡ shard_len code.k unit (length bytes) = λ i. shard_len (c.requires.same_k i) unit (sym of.has_size i) in
    let made : AreDataLists code unit bytes (made_lists code.k code.n rows chunks long) =
    made_are_data_lists code unit bytes c.mask-from.result.0 rows chunks long c.decides_data.ensures.is_code.few c.mask-from.ensures.value c.data_rows-rows.ensures of.lists same in
    let n : c.shape.result.n ≡ code.n = c.shape.ensures.0.same_n in
    c.of.ensures
    ∙ joined_back code unit k c.args.size bytes (made_lists k c.shape.result.n rows chunks long) c.in_ok-whole.whole.items c.decides_data.ensures.is_code c.args.g.some_bytes c.requires.same_k of.has_size of.all_bytes
    (subst (λ (n : ℕ). AreDataLists code unit bytes (made_lists k n rows chunks long)) (sym n) (subst (λ (k : ℕ). AreDataLists code unit bytes (made_lists k code.n rows chunks long)) (sym c.requires.same_k) made))
    c.in_ok-whole.ensures.value

pub returns-clause-not_decided : goal.returns-clause-not_decided
returns-clause-not_decided g c =
    let code = (goal.Code-dyn g c.args.code.now).meaning c.args.code.now.1 in
    let decided = (decide_data code c.args.chunks.now c.mask-from.result.0 c.mask-from.ensures.value).0 (c.if-not-decides_data.ensures.value.0 refl) in
    (λ e. absurd cc, λ h. absurd (h decided))
