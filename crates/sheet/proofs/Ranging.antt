-- The range of a group on a sheet, by the range of its place in the rows.
use Rattle.std.proofs.Common.{◌≡◌, ℕ, ◌≤◌, true, ltb, [], ◌∷◌, length, Some, None, Ok, Err, Option, Result, sym, ap, ◌∙◌, inl, inr, arith}
use Rattle.std.specs.List.{list_all}
use Rattle.std.proofs.lemmas.List.{length-map}
use Rattle.std.proofs.lemmas.Bool.{cond-true}
use Rattle.field.specs.declared.refusal.Refusal.{Refusal}
use Rattle.field.specs.Refusals.{question, first_no}
use Rattle.reckoning.specs.declared.ends.Range.{Range}
use Rattle.reckoning.specs.Questions.{questions}
use Rattle.reckoning.specs.Range.{placed, RangeTold}
use Rattle.sheet.specs.Standings.{counts}
use Rattle.sheet.specs.Sound.{sound}
use Rattle.sheet.specs.Content.{Content, place, on, paced, windows_of, Playable}
use Rattle.sheet.specs.Ranges.{GroupTold}
use Rattle.sheet.proofs.Soundness.{not_refused}
use Rattle.field.proofs.InARow.{no_later}

module _ (c : Content) (g : ℕ) (steady : paced c.pace ≡ true) (few : length c.rows ≤ 64) (kept : list_all sound c.rows ≡ true) (plays : Playable c) (on-it : on g c.rows ≡ true) where
  -- its place passes the questions of the field
  group_placed : placed c.pace (windows_of c.rows) (place g c.rows) ≡ None
  group_placed =
      let i = place g c.rows in
      let ws = windows_of c.rows in
      no_later (questions c.pace ws) (question 8 (ltb i (length ws)) ∷ []) (not_refused c.rows c.pace steady few kept)
      ∙ ap (λ (n : ℕ). first_no (question 8 (ltb i n) ∷ [])) (length-map c.rows counts)
      ∙ cond-true (on g c.rows) None (Some 8) on-it

  pub group_told : (r : Result Range Refusal) → RangeTold c.pace (windows_of c.rows) (place g c.rows) r → GroupTold c g r
  group_told (Ok r) h = (cond-true (on g c.rows) None (Some 8) on-it, h.1)
  group_told (Err q) (inl e) = absurd (none_some (sym group_placed ∙ e))
    where
      none_some : {n : ℕ} → ◌≡◌ {A = Option ℕ} None (Some n) → ⊥
      none_some e = let z : ◌≡◌ {A = ℕ} 0 1 = cc in omega arith
  group_told (Err q) (inr h) = absurd (h.2 plays)
