-- What striking out does to a column, and that a call which is taken moves a sheet as it marks the column.
use Rattle.std.proofs.Common.{◌≡◌, ℕ, suc, ◌≤◌, Bool, true, false, cond, List, [], ◌∷◌, Some, None, Option, unwrap_or, sym, refl, ap, ◌∙◌, subst, arith}
use Rattle.std.proofs.lemmas.Bool.{false≢true}
use Rattle.sheet.specs.Content.{Content}
use Rattle.sheet.specs.Calls.{Call, Enter, Change, Withdraw, Pace, CallUp, StandDown, SendAway, Open, Keep, Back, Order, Through, RangeOf, Spans, change_made}
use Rattle.sheet.specs.Trials.{Kind, joins, departs, opens, keeps, backs, tells, kind}
use Rattle.sheet.specs.Book.{made, is_open, trials_in, kept, taken_back, marked}
use Rattle.sheet.specs.OneCall.{moved, remembered}
use Rattle.sheet.specs.Law.{BackTo}

never : {X : Type 0} → false ≡ true → X
never h = absurd (false≢true h)

-- an open makes no change
open-still : (call : Call) (c : Content) → is_open (kind call) ≡ true → change_made call c ≡ c
open-still (Enter g e l) c o = never o
open-still (Change g e l) c o = never o
open-still (Withdraw g) c o = never o
open-still (Pace p) c o = never o
open-still (CallUp g t) c o = never o
open-still (StandDown g) c o = never o
open-still (SendAway g) c o = never o
open-still Open c o = refl
open-still (Keep s) c o = never o
open-still (Back s) c o = never o
open-still Order c o = never o
open-still (Through g t) c o = never o
open-still (RangeOf g) c o = never o
open-still Spans c o = never o

made_kept : (col : List Call) → made (kept col) ≡ made col
made_kept [] = refl
made_kept (call ∷ col) = go (made_kept col) (is_open (kind call)) refl
  where
    go : made (kept col) ≡ made col → (b : Bool) → is_open (kind call) ≡ b → made (cond b col (call ∷ kept col)) ≡ change_made call (made col)
    go more true e = sym (open-still call (made col) e)
    go more false e = ap (change_made call) more

opens_kept : (col : List Call) → 1 ≤ trials_in col → suc (trials_in (kept col)) ≡ trials_in col
opens_kept [] h = absurd (omega arith)
opens_kept (call ∷ col) h = go (opens_kept col) (is_open (kind call)) refl h
  where
    go : (1 ≤ trials_in col → suc (trials_in (kept col)) ≡ trials_in col) → (b : Bool) → is_open (kind call) ≡ b → 1 ≤ cond b (suc (trials_in col)) (trials_in col) → suc (trials_in (cond b col (call ∷ kept col))) ≡ cond b (suc (trials_in col)) (trials_in col)
    go more true e k = refl
    go more false e k = rw e (more k)

opens-taken-back : (col : List Call) → 1 ≤ trials_in col → suc (trials_in (taken_back col)) ≡ trials_in col
opens-taken-back [] h = absurd (omega arith)
opens-taken-back (call ∷ col) h = go (opens-taken-back col) (is_open (kind call)) h
  where
    go : (1 ≤ trials_in col → suc (trials_in (taken_back col)) ≡ trials_in col) → (b : Bool) → 1 ≤ cond b (suc (trials_in col)) (trials_in col) → suc (trials_in (cond b col (taken_back col))) ≡ cond b (suc (trials_in col)) (trials_in col)
    go more true k = refl
    go more false k = more k

-- ---- sheet and column

abbrev pub trials_of : Option Content → ℕ
trials_of None = 0
trials_of (Some c) = 1

-- rows and pace, trials and what back would bring, of a sheet and of the column
pub record Matches (c : Content) (was : Option Content) (col : List Call) : Type 0 where
  pub content : c ≡ made col
  pub trials : trials_of was ≡ trials_in col
  pub back : BackTo was (made (taken_back col))

-- the trials that the questions leave a call to meet
abbrev pub TrialsFit : Kind → ℕ → Type 0
TrialsFit joins n = Unit {0}
TrialsFit departs n = Unit {0}
TrialsFit opens n = n ≡ 0
TrialsFit (keeps s) n = 1 ≤ n
TrialsFit (backs s) n = 1 ≤ n
TrialsFit tells n = Unit {0}

one_at_most : (was : Option Content) (n : ℕ) → trials_of was ≡ n → n ≤ 1
one_at_most None n e = omega arith
one_at_most (Some c) n e = omega arith

brings : (c : Content) (was : Option Content) (d : Content) (n : ℕ) → trials_of was ≡ n → 1 ≤ n → BackTo was d → unwrap_or was c ≡ d
brings c None d n e h b = absurd (omega arith)
brings c (Some x) d n e h b = b

module _ (call : Call) (c : Content) (was : Option Content) (col : List Call) (m : Matches c was col) where
  -- a call that is no open joins the end
  joined : (k : Kind) → kind call ≡ k → is_open k ≡ false → Matches (change_made call c) was (call ∷ col)
  joined k e o =
      let f = ap is_open e ∙ o in
      record {
        content = ap (change_made call) m.content;
        trials = m.trials ∙ sym (ap (λ (b : Bool). cond b (suc (trials_in col)) (trials_in col)) f);
        back = subst (λ (x : List Call). BackTo was (made x)) (sym (ap (λ (b : Bool). cond b col (taken_back col)) f)) m.back;
      }

  pub taken : (k : Kind) → kind call ≡ k → TrialsFit k (trials_in col) → Matches (moved k call c was) (remembered k c was) (marked k call col)
  taken joins e f = joined joins e refl
  taken departs e f = joined departs e refl
  taken opens e f =
      let o = ap is_open e in
      record {
        content = m.content ∙ sym (open-still call (made col) o);
        trials = ap suc (sym f) ∙ sym (ap (λ (b : Bool). cond b (suc (trials_in col)) (trials_in col)) o);
        back = m.content ∙ ap made (sym (ap (λ (b : Bool). cond b col (taken_back col)) o));
      }
  taken (keeps s) e f =
      let o = one_at_most was (trials_in col) m.trials in
      let k = opens_kept col f in
      record { content = m.content ∙ sym (made_kept col); trials = omega arith; back = tt }
  taken (backs s) e f =
      let o = one_at_most was (trials_in col) m.trials in
      let k = opens-taken-back col f in
      record { content = brings c was (made (taken_back col)) (trials_in col) m.trials f m.back; trials = omega arith; back = tt }
  taken tells e f = m
