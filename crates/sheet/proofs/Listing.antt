-- What a list of the rows tells, by the sheet's own questions.
use Rattle.std.proofs.Common.{◌≡◌, ℕ, ◌≤◌, Bool, true, false, cond, leb, List, [], ◌∷◌, map, length, ℤ, pos, is_some, Some, None, Option, unwrap_or, sym, refl, ap, ◌∙◌, arith}
use Rattle.std.proofs.lemmas.List.{length-map, length-set}
use Rattle.std.specs.List.{list_all}
use Rattle.field.specs.declared.window.Window.{Window}
use Rattle.field.specs.Refusals.{question, first_no}
use Rattle.theory.specs.declared.span.Span.{Span}
use Rattle.theory.specs.Method.{forbidden}
use Rattle.reckoning.specs.Lists.{decided, mapped, told, answer}
use Rattle.reckoning.specs.declared.start.Start.{Start}
use Rattle.reckoning.specs.Order.{order_told, start_of, played}
use Rattle.reckoning.specs.Questions.{questions}
use Rattle.sheet.specs.declared.row.Row.{Row}
use Rattle.sheet.specs.declared.row.Standing.TheVariants.{Called}
use Rattle.sheet.specs.Standings.{counts, stood}
use Rattle.sheet.specs.Sound.{sound}
use Rattle.sheet.specs.Content.{Content, place, row, windows_of, numbers_of, paced, playable, order_of}
use Rattle.sheet.specs.Calls.{Through, change_made}
use Rattle.sheet.specs.Questions.{answered, verdict, q_time, q_on, q_inside, q_list, q_order}
use Rattle.sheet.proofs.Ascending.{numbers_kept}
use Rattle.field.proofs.InARow.{all_yes, no_later}
use Rattle.sheet.specs.Kept.{Kept}
use Rattle.sheet.proofs.Passing.{pass_set}
use Rattle.sheet.proofs.Soundness.{not_refused}
use Rattle.sheet.proofs.Stepping.{sound_row, held_sound}

-- what is left to ask of rows that no question of a field refuses: 12 and 13
module _ {X : Type 0} (rs : List Row) (p : ℕ) (room : ℕ) (g : List Span → List X) where
  abbrev made : List X
  made = g (unwrap_or (forbidden (pos p) (windows_of rs)) [])

  pub listed : paced p ≡ true → length rs ≤ 64 → list_all sound rs ≡ true → told p (windows_of rs) room g ≡ answered (first_no (q_list room rs ∷ question 13 (playable rs p) ∷ [])) made
  listed h few all =
      let ws = windows_of rs in
      let o = forbidden (pos p) ws in
      ap (λ (a : Option ℕ). decided a (mapped g o)) (no_later (questions p ws) (question 12 (leb (length ws) room) ∷ []) (not_refused rs p h few all) ∙ ap (λ (n : ℕ). first_no (question 12 (leb n room) ∷ [])) (length-map rs counts))
      ∙ go (leb (length rs) room) o
    where
      go : (b : Bool) (o : Option (List Span)) → decided (cond b None (Some 12)) (mapped g o) ≡ answered (cond b (cond (is_some o) None (Some 13)) (Some 12)) (g (unwrap_or o []))
      go true None = refl
      go true (Some f) = refl
      go false None = refl
      go false (Some f) = refl

  -- with an order of play only 12 is left
  pub listed_whole : paced p ≡ true → length rs ≤ 64 → list_all sound rs ≡ true → playable rs p ≡ true → told p (windows_of rs) room g ≡ answered (first_no (q_list room rs ∷ [])) made
  listed_whole h few all o = listed h few all ∙ ap (λ (b : Bool). answered (first_no (q_list room rs ∷ question 13 b ∷ [])) made) o

-- a count is answered under the same verdict as its list
pub counted : {X : Type 0} (o : Option ℕ) (xs : List X) → answer (answered o xs) ≡ answered o (length xs)
counted None xs = refl
counted (Some n) xs = refl

-- through lists the rows with one group held at one time, once the questions up to 11 are passed
module _ (k : Content) (kept : Kept k) (few : length k.rows ≤ 64) (g : ℕ) (t : ℤ) (room : ℕ) (none : first_no (q_time t ∷ q_on g k.rows ∷ q_inside g t k.rows ∷ []) ≡ None) where
  abbrev held : Row
  held = stood (row g k.rows) (Called t)

  abbrev new : Content
  new = change_made (Through g t) k

  new_sound : list_all sound new.rows ≡ true
  new_sound =
      let y = all_yes (q_time t ∷ q_on g k.rows ∷ q_inside g t k.rows ∷ []) none in
      pass_set sound k.rows (place g k.rows) held kept.kept (held_sound (row g k.rows) t (sound_row g k.rows y.1.0 kept.kept) y.1.1.0)

  pub held_listed : (ws : List Window) (ns : List ℕ) → ws ≡ windows_of new.rows → ns ≡ numbers_of k.rows → order_told k.pace ws ns room ≡ answered (verdict k (Through g t) room) (order_of new)
  held_listed ws ns a b =
      let n = length-set k.rows (place g k.rows) held in
      let c = b ∙ sym (numbers_kept k.rows (place g k.rows) held refl) in
      let list : List Span → List Start = λ f. map (start_of (numbers_of new.rows)) (played (pos k.pace) f (windows_of new.rows)) in
      (λ j. order_told k.pace (a j) (c j) room)
      ∙ listed new.rows k.pace room list kept.steady (omega arith) new_sound
      ∙ ap (λ (m : ℕ). answered (first_no (question 12 (leb m room) ∷ q_order new ∷ [])) (order_of new)) n
      ∙ sym (ap (λ (o : Option ℕ). answered o (order_of new)) (no_later (q_time t ∷ q_on g k.rows ∷ q_inside g t k.rows ∷ []) (q_list room k.rows ∷ q_order new ∷ []) none))
