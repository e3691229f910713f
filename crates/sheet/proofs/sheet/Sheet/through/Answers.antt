use Rattle.std.proofs.Common.{◌≡◌, ℕ, List, [], ◌∷◌, length, take, ℤ, pos, IfOk, Ok, Err, Option, Result, sym, refl, ap, ◌∙◌, subst, w32, rules}
use Rattle.std.proofs.lemmas.Int.{to_z-of_z}
use Rattle.field.specs.declared.refusal.Refusal.{Refusal}
use Rattle.field.specs.declared.window.Window.{Window}
use Rattle.field.specs.Refusals.{number_of, by_number, first_no}
use Rattle.reckoning.specs.Lists.{answer, leaves}
use Rattle.reckoning.specs.Order.{Plays}
use Rattle.sheet.specs.declared.row.Standing.TheVariants.{Called}
use Rattle.sheet.specs.declared.rows.Rows.{Rows}
use Rattle.sheet.specs.Answers.{count, said_by}
use Rattle.sheet.specs.Calls.{Through, change_made}
use Rattle.sheet.specs.Content.{numbers_of, order_of, place, row, windows_of}
use Rattle.sheet.specs.Questions.{answered, q_inside, q_list, q_on, q_order, q_time, verdict}
use Rattle.sheet.specs.Book.{lists}
use Rattle.sheet.specs.Sheets.{content}
use Rattle.field.proofs.Same.{same_window}
use Rattle.field.specs.Windows.{window}
use Rattle.sheet.specs.Standings.{stood}
use Rattle.sheet.proofs.Keeping.{kept_by_sheet}
use Rattle.sheet.proofs.Listing.{counted, held_listed}
use Rattle.sheet.proofs.Steps.{starts_go_on}
use Rattle.sheet.proofs.Stopping.{passed, refused_by, stops}
use Rattle.sheet.proofs.Thirteen.{through_13}
use Rattle.sheet.proofs.Tried.{few, held_windows}
use Rattle.sheet.proofs.sheet.Sheet.through.Goals as goal

pub returns-in_err-place : goal.returns-in_err-place
returns-in_err-place c =
    let s = c.args.self.now in
    let k = content s in
    let g = c.args.number in
    let t = c.args.time in
    let room = length c.args.list.now in
    let new = change_made (Through g t) k in
    let xs = order_of new in
    let r = c.from_residual.result in
    let q = c.in_err-place.field-0.0 in
    let i : r ≡ Err q = search rules in
    let x = to_z-of_z w32 t c.ranges.time in
    let no = subst (λ (u : ℤ). ◌≡◌ {A = Result ℕ ℕ} (Err (number_of q)) (answered (first_no (q_time u ∷ q_on g k.rows ∷ q_inside g u k.rows ∷ [])) (place g k.rows))) x c.in_err-place.ensures in
    let said = stops [] (q_time t ∷ q_on g k.rows ∷ q_inside g t k.rows ∷ []) (q_list room k.rows ∷ q_order new ∷ []) r q (length xs) (place g k.rows) refl i no in
    let v = refused_by (verdict k (Through g t) room) (length xs) (number_of q) (sym (ap by_number i) ∙ said) in
    let told = said ∙ sym (counted (verdict k (Through g t) room) xs) in
    let left = sym (ap (λ (o : Option ℕ). leaves (answered o xs) c.args.list.now) v) in
    record {
      writes = record { answer = told; list = left };
      law = (starts_go_on s (Through g t) xs (lists c.args.list.now []) _ _ (λ n. refl) (λ b ls t. t) refl refl (Through g t) refl (ap (said_by count) told) left).law;
      held = refl;
      thirteen = through_13 k s.holding.keeps.steady r (length xs) g t room said;
      plays = subst (λ (z : Result ℕ Refusal). IfOk z (λ n. Plays (pos s.holding.pace) (windows_of new.rows) (take n c.args.list.now))) (sym i) tt;
    }

pub returns : goal.returns
returns c =
    let s = c.args.self.now in
    let k = content s in
    let rs = k.rows in
    let g = c.args.number in
    let t = c.args.time in
    let before = c.args.list.now in
    let room = length before in
    let new = change_made (Through g t) k in
    let xs = order_of new in
    let x = to_z-of_z w32 t c.ranges.time in
    let yes = subst (λ (u : ℤ). ◌≡◌ {A = Result ℕ ℕ} (Ok c.in_ok-place.place) (answered (first_no (q_time u ∷ q_on g rs ∷ q_inside g u rs ∷ [])) (place g rs))) x c.in_ok-place.ensures in
    let p = passed (first_no (q_time t ∷ q_on g rs ∷ q_inside g t rs ∷ [])) (place g rs) c.in_ok-place.place yes in
    let h = c.new-held.ensures in
    let below = ap (λ (z : Rows). z.rows.now) h.0 ∙ c.rows.ensures in
    let windows = held_windows rs _ (place g rs) _ (stood (row g rs) (Called t)) _ below (h.1 ∙ p.1) (h.2 ∙ same_window _ (window t t) x x) in
    let told = held_listed k (kept_by_sheet s) (few s) g t room p.0 _ _ windows (ap numbers_of below) in
    let said = c.order.ensures.answer ∙ ap answer told in
    let left = c.order.ensures.list ∙ ap (λ o. leaves o before) told in
    record {
      writes = record { answer = said; list = left };
      law = (starts_go_on s (Through g t) xs (lists before []) _ _ (λ n. refl) (λ b ls t. t) refl refl (Through g t) refl (ap (said_by count) said) left).law;
      held = refl;
      thirteen = through_13 k s.holding.keeps.steady c.order.result (length xs) g t room (said ∙ counted (verdict k (Through g t) room) xs);
      plays = subst (λ (ws : List Window). IfOk c.order.result (λ n. Plays (pos s.holding.pace) ws (take n c.order.new.list))) windows c.order.ensures.plays;
    }
