-- What every sheet keeps to, and that a call whose questions are all passed leaves it so.
use Rattle.std.proofs.Common.{◌≡◌, ℕ, true, List, [], ℤ, None, refl, ap, ◌∙◌}
use Rattle.std.specs.List.{remove, list_all}
use Rattle.std.proofs.lemmas.Bool.{and_parts, not-true}
use Rattle.field.proofs.InARow.{all_yes}
use Rattle.reckoning.specs.Questions.{in_time}
use Rattle.sheet.specs.declared.row.Row.{Row}
use Rattle.sheet.specs.declared.row.Step.{Step}
use Rattle.sheet.specs.declared.row.Step.TheVariants as step
use Rattle.sheet.specs.declared.sheet.Sheet.{Sheet}
use Rattle.sheet.specs.Standings.{stepped, waiting}
use Rattle.sheet.specs.Sound.{sound}
use Rattle.sheet.specs.Content.{Content, place, place_for, on, row, rising, numbers_of, paced, playable}
use Rattle.sheet.specs.Calls.{Enter, Change, Withdraw, CallUp, StandDown, SendAway, made_or, step_of, change_made}
use Rattle.sheet.specs.Questions.{questions, verdict}
use Rattle.sheet.specs.Kept.{Kept}
use Rattle.sheet.specs.Sheets.{content}
use Rattle.sheet.proofs.Passing.{pass_set, pass_inserted, pass_removed}
use Rattle.sheet.proofs.Soundness.{sound_from}
use Rattle.sheet.proofs.Playing.{plays, decided, none_play}
use Rattle.sheet.proofs.Stepping.{placed, sound_row, called_sound, changed_sound}
use Rattle.sheet.proofs.Thinning.{fewer_play}
use Rattle.sheet.proofs.Widening.{Eases, wider_play, stands_down, goes_away}
use Rattle.sheet.proofs.Ascending.{joined_rising, removed_rising, numbers_kept, same_number}

pub kept_by_sheet : (s : Sheet) → Kept (content s)
kept_by_sheet s = s.holding.keeps

-- as a sheet that holds other rows and another pace owes it
pub owed : (c : Content) → Kept c → (rs : List Row) (p : ℕ) → rs ≡ c.rows → p ≡ c.pace → Kept (record { rows = rs; pace = p })
owed c k rs p e f =
    record {
      sorted = ap (λ (us : List Row). rising (numbers_of us)) e ∙ k.sorted;
      kept = ap (list_all sound) e ∙ k.kept;
      steady = ap paced f ∙ k.steady;
      possible = (λ i. playable (e i) (f i)) ∙ k.possible;
    }

pub none_kept : (p : ℕ) → paced p ≡ true → Kept (record { rows = []; pace = p })
none_kept p h = record { sorted = refl; kept = refl; steady = h; possible = none_play p }

module _ (c : Content) (k : Kept c) where
  pub enter_keeps : (g : ℕ) (e l : ℤ) → verdict c (Enter g e l) 0 ≡ None → Kept (change_made (Enter g e l) c)
  enter_keeps g e l v =
      let y = all_yes (questions c (Enter g e l) 0) v in
      let times = and_parts (in_time e) (in_time l) y.1.1.0 in
      let r = waiting g e l in
      let s = sound_from r (record { number = y.1.0; early = times.0; late = times.1; forward = y.1.1.1.0; time = refl }) in
      record {
        sorted = joined_rising r c.rows (not-true (on g c.rows) y.1.1.1.1.0) k.sorted;
        kept = pass_inserted sound c.rows (place_for g c.rows) r k.kept s;
        steady = k.steady;
        possible = y.1.1.1.1.1.0;
      }

  -- a group's step, once its row is sound and there is an order of play
  step_keeps : (g : ℕ) (s : Step) → sound (made_or (row g c.rows) (stepped (row g c.rows) s)) ≡ true → playable (step_of g s c.rows) c.pace ≡ true → Kept (record { rows = step_of g s c.rows; pace = c.pace })
  step_keeps g s h o =
      let rs = c.rows in
      let new = made_or (row g rs) (stepped (row g rs) s) in
      record {
        sorted = ap rising (numbers_kept rs (place g rs) new (same_number (row g rs) s)) ∙ k.sorted;
        kept = pass_set sound rs (place g rs) new k.kept h;
        steady = k.steady;
        possible = o;
      }

  pub change_keeps : (g : ℕ) (e l : ℤ) → verdict c (Change g e l) 0 ≡ None → Kept (change_made (Change g e l) c)
  change_keeps g e l v =
      let y = all_yes (questions c (Change g e l) 0) v in
      let times = and_parts (in_time e) (in_time l) y.0 in
      let h = changed_sound (row g c.rows) e l (sound_row g c.rows y.1.1.0 k.kept) times.0 times.1 y.1.0 y.1.1.1.0 in
      step_keeps g (step.Change e l) h y.1.1.1.1.0

  pub call_keeps : (g : ℕ) (t : ℤ) → verdict c (CallUp g t) 0 ≡ None → Kept (change_made (CallUp g t) c)
  call_keeps g t v =
      let y = all_yes (questions c (CallUp g t) 0) v in
      let h = called_sound (row g c.rows) t (sound_row g c.rows y.1.0 k.kept) y.1.1.1.0 y.1.1.0 in
      step_keeps g (step.CallUp t) h y.1.1.1.1.0

  -- a step to a window that holds the old one needs no question
  eased_keeps : (g : ℕ) (s : Step) → Eases (row g c.rows) (made_or (row g c.rows) (stepped (row g c.rows) s)) → Kept (record { rows = step_of g s c.rows; pace = c.pace })
  eased_keeps g s e =
      let new = made_or (row g c.rows) (stepped (row g c.rows) s) in
      let o = wider_play c (place g c.rows) new e.wider (plays c k.steady k.possible) in
      step_keeps g s e.sound (decided (record { rows = step_of g s c.rows; pace = c.pace }) k.steady o)

  pub stand_down_keeps : (g : ℕ) → verdict c (StandDown g) 0 ≡ None → Kept (change_made (StandDown g) c)
  stand_down_keeps g v =
      let y = all_yes (questions c (StandDown g) 0) v in
      eased_keeps g step.StandDown (stands_down (row g c.rows) (sound_row g c.rows y.0 k.kept) y.1.0)

  pub away_keeps : (g : ℕ) → verdict c (SendAway g) 0 ≡ None → Kept (change_made (SendAway g) c)
  away_keeps g v =
      let y = all_yes (questions c (SendAway g) 0) v in
      eased_keeps g step.SendAway (goes_away (row g c.rows) (sound_row g c.rows y.0 k.kept) y.1.0)

  pub withdraw_keeps : (g : ℕ) → verdict c (Withdraw g) 0 ≡ None → Kept (change_made (Withdraw g) c)
  withdraw_keeps g v =
      let y = all_yes (questions c (Withdraw g) 0) v in
      let rs = c.rows in
      let i = place g rs in
      record {
        sorted = removed_rising rs i k.sorted;
        kept = pass_removed sound rs i k.kept;
        steady = k.steady;
        possible = decided (record { rows = remove rs i; pace = c.pace }) k.steady (fewer_play c i (placed g rs y.0) (plays c k.steady k.possible));
      }
