-- What trying a field of rows tells.
use Rattle.std.proofs.Common.{◌≡◌, ℕ, ◌≤◌, true, cond, List, map, length, set, pos, is_some, Some, None, Option, Result, sym, refl, ap, ◌∙◌, arith}
use Rattle.std.proofs.lemmas.List.{map-set}
use Rattle.std.specs.List.{insert, list_all}
use Rattle.field.specs.declared.refusal.Refusal.{Refusal}
use Rattle.field.specs.declared.window.Window.{Window}
use Rattle.field.specs.Refusals.{by_number}
use Rattle.theory.specs.declared.span.Span.{Span}
use Rattle.theory.specs.Method.{forbidden}
use Rattle.reckoning.specs.Lists.{decided, mapped}
use Rattle.reckoning.specs.Questions.{refused}
use Rattle.sheet.specs.declared.row.Row.{Row}
use Rattle.sheet.specs.declared.sheet.Holding.{Holding}
use Rattle.sheet.specs.declared.sheet.Sheet.{Sheet}
use Rattle.sheet.specs.Content.{Content, paced, windows_of}
use Rattle.sheet.specs.Sheets.{content, content_of}
use Rattle.sheet.specs.Questions.{answered, asked_13}
use Rattle.sheet.specs.Standings.{counts}
use Rattle.sheet.specs.Sound.{sound}
use Rattle.sheet.proofs.Soundness.{not_refused}

-- what is asked of a field, once no question refuses it
order_asked : (o : Option (List Span)) → decided {X = Unit {0}} None (mapped (λ _. tt) o) ≡ answered (cond (is_some o) None (Some 13)) tt
order_asked None = refl
order_asked (Some f) = refl

pub tried : (c : Content) (ws : List Window) (r : Result (Unit {0}) Refusal) → ws ≡ windows_of c.rows → by_number r ≡ decided (refused c.pace ws) (mapped (λ _. tt) (forbidden (pos c.pace) ws)) → paced c.pace ≡ true → length c.rows ≤ 64 → list_all sound c.rows ≡ true → by_number r ≡ asked_13 c
tried c ws r same told h few all =
    let p = c.pace in
    let rs = c.rows in
    told
    ∙ ap (λ (vs : List Window). decided (refused p vs) (mapped (λ _. tt) (forbidden (pos p) vs))) same
    ∙ ap (λ (a : Option ℕ). decided a (mapped (λ _. tt) (forbidden (pos p) (windows_of rs)))) (not_refused rs p h few all)
    ∙ order_asked (forbidden (pos p) (windows_of rs))

-- one place held to the window that counts of another row
pub held_windows : (rs vs : List Row) (i k : ℕ) (r : Row) (w : Window) → vs ≡ rs → k ≡ i → w ≡ counts r → set (map counts vs) k w ≡ windows_of (set rs i r)
held_windows rs vs i k r w a b c =
    ap (λ (us : List Row). set (map counts us) k w) a ∙ ap (λ (n : ℕ). set (map counts rs) n w) b ∙ ap (λ (v : Window). set (map counts rs) i v) c ∙ sym (map-set counts rs i r)

pub more_windows : (rs vs : List Row) (i k : ℕ) (r q : Row) → vs ≡ rs → k ≡ i → q ≡ r → windows_of (insert vs k q) ≡ windows_of (insert rs i r)
more_windows rs vs i k r q a b c = λ j. windows_of (insert (a j) (b j) (c j))

pub few_in : (h : Holding) → length (content_of h).rows ≤ 64
few_in h = let k = h.table.short in let l = h.table.rows.ok.0 in omega arith

pub few : (s : Sheet) → length (content s).rows ≤ 64
few s = few_in s.holding
