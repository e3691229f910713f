-- What the tests decide is what the questions of the book ask, 13 by the existence of an order of play.
use Rattle.std.proofs.Common.{◌≡◌, ℕ, ◌<◌, Bool, true, false, cond, eqb, ltb, leb, List, [], ◌∷◌, ◌++◌, Some, None, Option, sym, refl, ap, ◌∙◌, subst, inl, inr, arith}
use Rattle.std.specs.List.{AllByRecursion}
use Rattle.std.proofs.ByRecursion.{All-weaker, kept_by_passes}
use Rattle.std.proofs.lemmas.Bool.{and_parts, both_ways, eqb-true, leb-true, ltb-true, false≢true}
use Rattle.field.specs.Refusals.{Question, first_no}
use Rattle.sheet.specs.Content.{paced, playable, Playable}
use Rattle.sheet.specs.Calls.{Call, Enter, Change, Withdraw, Pace, CallUp, StandDown, SendAway, Open, Keep, Back, Order, Through, RangeOf, Spans, change_made}
use Rattle.sheet.specs.Questions.{q_order, q_pace, before_13}
use Rattle.sheet.specs.Trials.{Held, Kind, joins, departs, opens, keeps, backs, tells, q_no_trial, q_slip, trial_questions, asked, decision}
use Rattle.sheet.specs.Book.{Lists, room, earlier, Reckons, Passes, FirstNo}
use Rattle.sheet.proofs.Playing.{plays, decided}
use Rattle.field.proofs.InARow.{all_yes, no_later, no_stays}
use Rattle.sheet.proofs.Striking.{TrialsFit}

never : {X : Type 0} → false ≡ true → X
never h = absurd (false≢true h)

pub none_some : {X : Type 0} {n : ℕ} → ◌≡◌ {A = Option ℕ} None (Some n) → X
none_some e = let z : ◌≡◌ {A = ℕ} 0 1 = cc in absurd (omega arith)

pub same_some : {m n : ℕ} → Some m ≡ Some n → m ≡ n
same_some e = cc

-- ---- questions in a row

-- the number of a no is one of theirs
no_among : (P : ℕ → Type 0) (qs : List Question) (n : ℕ) → AllByRecursion (λ q. P q.number) qs → first_no qs ≡ Some n → P n
no_among P [] n a e = none_some e
no_among P (q ∷ qs) n a e = go q.yes e (λ d. no_among P qs n a.1 d)
  where
    go : (b : Bool) → cond b (first_no qs) (Some q.number) ≡ Some n → (first_no qs ≡ Some n → P n) → P n
    go true d ih = ih d
    go false d ih = subst P (same_some d) a.0

-- those before 13 never give 13
pub not_13 : (qs : List Question) → first_no (before_13 qs) ≡ Some 13 → ⊥
not_13 qs e =
    let a = All-weaker (λ (q : Question). ltb q.number 13 ≡ true) (λ (q : Question). q.number < 13) (λ q h. ltb-true q.number 13 h) (before_13 qs) (kept_by_passes (λ (q : Question). ltb q.number 13) qs) in
    let h = no_among (λ n. n < 13) (before_13 qs) 13 a e in
    omega arith

-- ---- a call's questions

-- they end before 13, or with 13 for what is held with the change made
pub data Shape (h : Held) (call : Call) (given : Lists) : Type 0 where
  plain : asked h call (room call given) ≡ earlier h call given → (Reckons h call given → ⊥) → Shape h call given
  reckoning : asked h call (room call given) ≡ earlier h call given ++ q_order (change_made call h.content) ∷ [] → Reckons h call given → (first_no (earlier h call given) ≡ None → paced (change_made call h.content).pace ≡ true) → Shape h call given

shape : (h : Held) (call : Call) (given : Lists) → paced h.content.pace ≡ true → Shape h call given
shape h (Enter g e l) given p = reckoning refl refl (λ _. p)
shape h (Change g e l) given p = reckoning refl refl (λ _. p)
shape h (Withdraw g) given p = plain refl never
shape h (Pace s) given p = reckoning refl refl (λ n. (all_yes (q_pace s ∷ []) n).0)
shape h (CallUp g t) given p = reckoning refl refl (λ _. p)
shape h (StandDown g) given p = plain refl never
shape h (SendAway g) given p = plain refl never
shape h Open given p = plain refl never
shape h (Keep s) given p = plain refl never
shape h (Back s) given p = plain refl never
shape h Order given p = plain refl never
shape h (Through g t) given p = reckoning refl refl (λ _. p)
shape h (RangeOf g) given p = plain refl never
shape h Spans given p = plain refl never

module _ (h : Held) (call : Call) (given : Lists) where
  -- what the outcome of the tests says of the questions
  abbrev pub Settles : Option ℕ → Type 0
  Settles None = Passes h call given
  Settles (Some n) = FirstNo h call given n

  by_plain : asked h call (room call given) ≡ earlier h call given → (Reckons h call given → ⊥) → (v : Option ℕ) → decision h call (room call given) ≡ v → Settles v
  by_plain all out None e = record { before = sym (ap first_no all) ∙ e; order = λ r. absurd (out r) }
  by_plain all out (Some n) e = inl (sym (ap first_no all) ∙ e)

  by_last : (b : Bool) → playable (change_made call h.content).rows (change_made call h.content).pace ≡ b → Reckons h call given → paced (change_made call h.content).pace ≡ true → first_no (earlier h call given) ≡ None → (v : Option ℕ) → ◌≡◌ {A = Option ℕ} (cond b None (Some 13)) v → Settles v
  by_last true y has steady none None e = record { before = none; order = λ _. plays (change_made call h.content) steady y }
  by_last true y has steady none (Some n) e = none_some e
  by_last false y has steady none None e = none_some (sym e)
  by_last false y has steady none (Some n) e = inr (none, sym (same_some e), has, (λ o. both_ways _ y (decided (change_made call h.content) steady o)))

  by_reckoning : asked h call (room call given) ≡ earlier h call given ++ q_order (change_made call h.content) ∷ [] → Reckons h call given → (first_no (earlier h call given) ≡ None → paced (change_made call h.content).pace ≡ true) → (w v : Option ℕ) → first_no (earlier h call given) ≡ w → decision h call (room call given) ≡ v → Settles v
  by_reckoning all has steady (Some n) v f e =
      let last = q_order (change_made call h.content) ∷ [] in
      subst Settles (sym (no_stays (earlier h call given) last n f) ∙ sym (ap first_no all) ∙ e) (inl f)
  by_reckoning all has steady None v f e =
      let last = q_order (change_made call h.content) ∷ [] in
      by_last _ refl has (steady f) f v (sym (no_later (earlier h call given) last f) ∙ sym (ap first_no all) ∙ e)

  by_shape : Shape h call given → (v : Option ℕ) → decision h call (room call given) ≡ v → Settles v
  by_shape (plain all out) v e = by_plain all out v e
  by_shape (reckoning all has steady) v e = by_reckoning all has steady _ v refl e

  pub settled : paced h.content.pace ≡ true → Settles (decision h call (room call given))
  settled p = by_shape (shape h call given p) _ refl

  -- number 13 in the subject's words
  pub thirteen_only : (v : Option ℕ) → Settles v → v ≡ Some 13 → (first_no (earlier h call given) ≡ None) × (Playable (change_made call h.content) → ⊥)
  thirteen_only None s e = none_some e
  thirteen_only (Some n) (inl f) e = absurd (not_13 (asked h call (room call given)) (f ∙ e))
  thirteen_only (Some n) (inr f) e = (f.0, f.3)

  pub thirteen_always : (v : Option ℕ) → Settles v → Reckons h call given → first_no (earlier h call given) ≡ None → (Playable (change_made call h.content) → ⊥) → v ≡ Some 13
  thirteen_always None s has none lacks = absurd (lacks (s.order has))
  thirteen_always (Some n) (inl f) has none lacks = none_some (sym none ∙ f)
  thirteen_always (Some n) (inr f) has none lacks = ap Some f.1

  -- ---- a first no is one, and rules out that all pass

  pub no_both : (n : ℕ) → Passes h call given → FirstNo h call given n → ⊥
  no_both n p (inl f) = none_some (sym p.before ∙ f)
  no_both n p (inr f) = f.3 (p.order f.2)

  pub one_no : (m n : ℕ) → FirstNo h call given m → FirstNo h call given n → m ≡ n
  one_no m n (inl f) (inl g) = same_some (sym f ∙ g)
  one_no m n (inl f) (inr g) = none_some (sym g.0 ∙ f)
  one_no m n (inr f) (inl g) = none_some (sym f.0 ∙ g)
  one_no m n (inr f) (inr g) = f.1 ∙ sym g.1

-- ---- the questions about trials

pub trials_fit : (h : Held) (k : Kind) (more : List Question) → first_no (trial_questions h k ++ more) ≡ None → TrialsFit k h.trials
trials_fit h joins more e = tt
trials_fit h departs more e = tt
trials_fit h opens more e = eqb-true h.trials 0 (all_yes (q_no_trial h ∷ more) e).0
trials_fit h (keeps s) more e = leb-true 1 h.trials (and_parts (leb 1 h.trials) (eqb s h.sheet) (all_yes (q_slip h s ∷ more) e).0).0
trials_fit h (backs s) more e = leb-true 1 h.trials (and_parts (leb 1 h.trials) (eqb s h.sheet) (all_yes (q_slip h s ∷ more) e).0).0
trials_fit h tells more e = tt
