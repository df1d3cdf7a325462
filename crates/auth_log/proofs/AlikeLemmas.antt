-- Peers of which the same is said.
use Rattle.std.proofs.Common.{inl, inr, ℕ, sym, ◌∙◌, subst}
use Rattle.ec_model.specs.Codes.{CodeRows, HasPosition}
use Rattle.auth_log.specs.Choice.{Info, PeeringInput, Survey, WentAlive, IsEligible, IsSurvey}
use Rattle.auth_log.specs.Laws.{AreAlike, ChooseAlike}

more_said : (one other : PeeringInput) → AreAlike one other → (p : ℕ) (info : Info) → IsEligible one p info → IsEligible other p info
more_said one other alike p info e = record {
  up = subst (λ m. HasPosition m p) alike.up e.up;
  says = sym (alike.said p e.up) ∙ e.says;
  whole = e.whole;
  joined = e.joined;
  base = e.base;
  started = subst (λ ks. WentAlive ks info.les e.joined e.base) alike.kept e.started;
}

turned : (one other : PeeringInput) → AreAlike one other → AreAlike other one
turned one other alike = record {
  kept = sym alike.kept;
  up = sym alike.up;
  said = λ p has. sym (alike.said p (subst (λ m. HasPosition m p) (sym alike.up) has));
}

same_survey : (one other : PeeringInput) → AreAlike one other → (survey : Survey) → IsSurvey one survey → IsSurvey other survey
same_survey one other alike survey s =
    let forth = more_said one other alike in
    let back = more_said other one (turned one other alike) in
    record {
      eligible = λ p. (λ has. let f = (s.eligible p).0 has in (f.0, forth p f.0 f.1), λ e. (s.eligible p).1 (e.0, back p e.0 e.1));
      epoch = record {
        greatest = λ p info m. s.epoch.greatest p info (back p info m);
        started = elim s.epoch.started [
          | inl h ↦ inl (record { p = h.p; info = h.info; is_in = forth h.p h.info h.is_in; started = h.started })
          | inr none ↦ inr (λ p info m. none.0 p info (back p info m), none.1)
        ];
      };
      version = record {
        least = λ p info m. s.version.least p info (back p info m);
        headed = elim s.version.headed [
          | inl h ↦ inl (record { p = h.p; info = h.info; is_in = forth h.p h.info h.is_in; started = h.started; headed = h.headed })
          | inr none ↦ inr (λ h. none.0 (record { p = h.p; info = h.info; is_in = back h.p h.info h.is_in; started = h.started }), none.1)
        ];
      };
    }

pub choose_alike : (code : CodeRows) (one other : PeeringInput) → AreAlike one other → ChooseAlike code one other
choose_alike code one other alike =
    let forth = more_said one other alike in
    let back = more_said other one (turned one other alike) in
    record {
      surveyed = same_survey one other alike;
      sufficient = λ good. record {
        survey = good.survey;
        surveyed = same_survey one other alike good.survey good.surveyed;
        decided = λ epoch joined base w late. good.decided epoch joined base (subst (λ ks. WentAlive ks epoch joined base) (sym alike.kept) w) late;
      };
      joined = λ holds joined j p. (
        λ has. let f = (j p).0 has in (f.0, (f.1.0, forth p f.1.0 f.1.1)),
        λ e. (j p).1 (e.0, (e.1.0, back p e.1.0 e.1.1)),
      );
    }
