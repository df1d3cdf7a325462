use Rattle.std.proofs.Common.{◌≡◌, ⊎_elim, inl, inr, ℕ, Err, refl, sym, ap, subst, ◌∙◌, arith}
use Rattle.std.specs.Io.KnownBytes.{Appends}
use Rattle.rig_disk.specs.Faults.{Rose}
use Rattle.pool_making.proofs.FaultLemmas.{all_stay, voice_stays}
use Rattle.pool_making.specs.declared.fault.MakeFault.TheVariants.{Exists, SlotFailed, MapFailed, NoMemory}
use Rattle.pool_run.specs.Texts.{exists_line, slot_line}
use Rattle.pool_run.proofs.CreateLemmas.{exists_names_none, not_ok, nothing_said, moments_then_said, none_then_said, moments_then_slot, none_then_slot}
use Rattle.pool_run.proofs.creating.make.Goals as goal

pub returns-in-Ok-clause-created : goal.returns-in-Ok-clause-created
returns-in-Ok-clause-created g c = record {
  statuses = inl refl;
  code = (goal.Code-dyn g c.args.code.now).meaning c.args.code.now.1;
  is_code = c.requires.made;
  made = λ e. c.in-Ok.ensures.made;
  any_moment = c.in-Ok.ensures.any_moment;
  refused = λ other map. absurd (other refl);
  exists = λ text told. record {
    only = λ e. absurd (omega (arith, e));
    comes = λ long. absurd (not_ok _ _ _ (c.in-Ok.ensures.exists.whenever text told long));
  };
  says = record {
    unsaid = λ e. nothing_said _ _ c.in-Ok.ensures.kept.said;
    exists = λ e. absurd (omega (arith, e));
    slot = λ e. absurd (omega (arith, e));
  };
}

pub returns-in-Ok-clause-counts : goal.returns-in-Ok-clause-counts
returns-in-Ok-clause-counts g c = record {
  voice = λ e. absurd (omega (arith, e));
  quiet = λ e. all_stay _ _ _ _ c.in-Ok.ensures.cause;
  slot = λ e. absurd (omega (arith, e));
  map = λ e. absurd (omega (arith, e));
  others = λ one slot far. all_stay _ _ _ _ c.in-Ok.ensures.cause slot;
}

pub returns-in-Err-Exists-clause-created : goal.returns-in-Err-Exists-clause-created
returns-in-Err-Exists-clause-created g c =
    let code = (goal.Code-dyn g c.args.code.now).meaning c.args.code.now.1 in
    let p = c.args.profile.now in
    let reads = g.R.Rig.reads in
    let clock = g.R.Rig.clock in
    let images = g.R.Rig.images in
    let mid = c.make_pool.new.rig in
    let new = c.say_last.new.rig in
    record {
      statuses = grind (arith, c.say_last.ensures.status);
      code = code;
      is_code = c.requires.made;
      made = λ e. absurd (grind (arith, e, c.say_last.ensures.status));
      any_moment = moments_then_said reads clock images p code c.args.rig.now mid new exists_line c.make_pool.ensures.any_moment c.say_last.ensures.any_moment;
      refused = λ other map. none_then_said reads clock images p code c.args.rig.now mid new exists_line
          (⊎_elim (λ e. absurd (let f : MapFailed ≡ Exists = sym e ∙ c.in-Err-Exists.field-0-is in cc)) (λ keeps. keeps) c.in-Err-Exists.ensures.refused) c.say_last.ensures.any_moment;
      exists = λ text told. record {
        only = λ e. c.in-Err-Exists.ensures.exists.only_if (ap Err c.in-Err-Exists.field-0-is) text told;
        comes = λ long. grind (arith, c.say_last.ensures.status);
      };
      says = record {
        unsaid = λ e. absurd (grind (arith, e, c.say_last.ensures.status));
        exists = λ e. subst (λ s. Appends s (g.R.Rig.said new) exists_line) c.in-Err-Exists.ensures.kept.said (c.say_last.ensures.said (λ f. omega (arith, e, f)));
        slot = λ e. absurd (grind (arith, e, c.say_last.ensures.status));
      };
    }

pub returns-in-Err-Exists-clause-counts : goal.returns-in-Err-Exists-clause-counts
returns-in-Err-Exists-clause-counts g c = record {
  voice = λ e. subst (λ (n : ℕ). Rose n (g.R.Rig.faults c.say_last.new.rig 17)) (voice_stays _ _ _ _ c.in-Err-Exists.ensures.cause) (c.say_last.ensures.voice e (λ f. omega (arith, f)));
  quiet = λ e. absurd (grind (arith, e, c.say_last.ensures.status));
  slot = λ e. absurd (grind (arith, e, c.say_last.ensures.status));
  map = λ e. absurd (grind (arith, e, c.say_last.ensures.status));
  others = λ one slot far. c.say_last.ensures.slots slot far ∙ c.in-Err-Exists.ensures.cause.others slot (exists_names_none _ c.in-Err-Exists.field-0-is slot);
}

pub returns-in-Err-SlotFailed-clause-created : goal.returns-in-Err-SlotFailed-clause-created
returns-in-Err-SlotFailed-clause-created g c =
    let code = (goal.Code-dyn g c.args.code.now).meaning c.args.code.now.1 in
    let p = c.args.profile.now in
    let reads = g.R.Rig.reads in
    let clock = g.R.Rig.clock in
    let images = g.R.Rig.images in
    let mid = c.make_pool.new.rig in
    let new = c.say_slot.new.rig in
    let slot = c.in-Err-SlotFailed.slot in
    let one = c.say_slot.ensures.statuses in
    record {
      statuses = grind (arith, one);
      code = code;
      is_code = c.requires.made;
      made = λ e. absurd (grind (arith, e, one));
      any_moment = moments_then_slot reads clock images p code c.args.rig.now mid new (slot_line slot) c.say_slot.result.0 one c.make_pool.ensures.any_moment c.say_slot.ensures.unsaid c.say_slot.ensures.any_moment;
      refused = λ other map. none_then_slot reads clock images p code c.args.rig.now mid new (slot_line slot) c.say_slot.result.0 one
          (⊎_elim (λ e. absurd (let f : MapFailed ≡ SlotFailed slot = sym e ∙ c.in-Err-SlotFailed.field-0-is in cc)) (λ keeps. keeps) c.in-Err-SlotFailed.ensures.refused)
          c.say_slot.ensures.unsaid c.say_slot.ensures.any_moment;
      exists = λ text told. record {
        only = λ e. absurd (grind (arith, e, one));
        comes = λ long. absurd (⊎_elim
            (λ e. let f : Exists ≡ SlotFailed slot = (let h : c.in-Err-SlotFailed.field-0 ≡ Exists = cc in sym h) ∙ c.in-Err-SlotFailed.field-0-is in cc)
            (λ e. let f : MapFailed ≡ SlotFailed slot = (let h : c.in-Err-SlotFailed.field-0 ≡ MapFailed = cc in sym h) ∙ c.in-Err-SlotFailed.field-0-is in cc)
            (c.in-Err-SlotFailed.ensures.exists.whenever text told long));
      };
      says = record {
        unsaid = λ e. nothing_said _ _ (ap g.R.Rig.said (c.say_slot.ensures.unsaid (grind (arith, e, one))) ∙ c.in-Err-SlotFailed.ensures.kept.said);
        exists = λ e. absurd (grind (arith, e, one));
        slot = λ e. (
          slot,
          (c.in-Err-SlotFailed.ensures.cause.below slot (ap Err c.in-Err-SlotFailed.field-0-is)).1,
          subst (λ s. Appends s (g.R.Rig.said new) (slot_line slot)) c.in-Err-SlotFailed.ensures.kept.said (c.say_slot.ensures.said e),
        );
      };
    }

pub returns-in-Err-SlotFailed-clause-counts : goal.returns-in-Err-SlotFailed-clause-counts
returns-in-Err-SlotFailed-clause-counts g c =
    let slot = c.in-Err-SlotFailed.slot in
    let one = c.say_slot.ensures.statuses in
    let below = (c.in-Err-SlotFailed.ensures.cause.below slot (ap Err c.in-Err-SlotFailed.field-0-is)).1 in
    record {
      voice = λ e. subst (λ (n : ℕ). Rose n (g.R.Rig.faults c.say_slot.new.rig 17)) (voice_stays _ _ _ _ c.in-Err-SlotFailed.ensures.cause) (c.say_slot.ensures.voice e);
      quiet = λ e. absurd (grind (arith, e, one));
      slot = λ e. (
        slot,
        below,
        subst (λ (n : ℕ). Rose (g.R.Rig.faults c.args.rig.now slot) n) (sym (c.say_slot.ensures.slots slot (λ f. omega (arith, f, below))))
            (c.in-Err-SlotFailed.ensures.cause.named slot (inl (ap Err c.in-Err-SlotFailed.field-0-is))),
      );
      map = λ e. absurd (grind (arith, e, one));
      others = λ any s far. absurd (grind (arith, any, one));
    }

pub returns-in-Err-MapFailed-clause-created : goal.returns-in-Err-MapFailed-clause-created
returns-in-Err-MapFailed-clause-created g c = record {
  statuses = inr (inr (inr (inr (inl refl))));
  code = (goal.Code-dyn g c.args.code.now).meaning c.args.code.now.1;
  is_code = c.requires.made;
  made = λ e. absurd (omega (arith, e));
  any_moment = c.make_pool.ensures.any_moment;
  refused = λ other map. absurd (map refl);
  exists = λ text told. record { only = λ e. absurd (omega (arith, e)); comes = λ long. inr (inr (inl refl)) };
  says = record {
    unsaid = λ e. nothing_said _ _ c.in-Err-MapFailed.ensures.kept.said;
    exists = λ e. absurd (omega (arith, e));
    slot = λ e. absurd (omega (arith, e));
  };
}

pub returns-in-Err-NoMemory-clause-created : goal.returns-in-Err-NoMemory-clause-created
returns-in-Err-NoMemory-clause-created g c = record {
  statuses = inr (inr (inr (inr (inr (inl refl)))));
  code = (goal.Code-dyn g c.args.code.now).meaning c.args.code.now.1;
  is_code = c.requires.made;
  made = λ e. absurd (omega (arith, e));
  any_moment = c.make_pool.ensures.any_moment;
  refused = λ other map. ⊎_elim (λ e. absurd (let f : MapFailed ≡ NoMemory = sym e ∙ c.in-Err-NoMemory.field-0-is in cc)) (λ keeps. keeps) c.in-Err-NoMemory.ensures.refused;
  exists = λ text told. record { only = λ e. absurd (omega (arith, e)); comes = λ long. inr (inr (inr (inl refl))) };
  says = record {
    unsaid = λ e. nothing_said _ _ c.in-Err-NoMemory.ensures.kept.said;
    exists = λ e. absurd (omega (arith, e));
    slot = λ e. absurd (omega (arith, e));
  };
}

pub returns-in-Err-MapFailed-clause-counts : goal.returns-in-Err-MapFailed-clause-counts
returns-in-Err-MapFailed-clause-counts g c = record {
  voice = λ e. absurd (omega (arith, e));
  quiet = λ e. absurd (omega (arith, e));
  slot = λ e. absurd (omega (arith, e));
  map = λ e. c.in-Err-MapFailed.ensures.cause.named 16 (inr (refl, ap Err c.in-Err-MapFailed.field-0-is));
  others = λ any slot far. absurd (grind (arith, any));
}
