-- The roll that is written of a sheet.
use Rattle.std.specs.Prelude.{ℕ, ◌/◌, ◌%◌, List, [], ◌∷◌, ◌++◌, length, ℤ, Result}
use Rattle.std.specs.List.{flat_map}
use Rattle.std.specs.Int.{w32}
use Rattle.std.proofs.Common.{of_z}
use Rattle.sheet.specs.declared.row.Row.{Row}
use Rattle.sheet.specs.declared.row.Standing.{Standing}
use Rattle.sheet.specs.declared.row.Standing.TheVariants.{Waiting, Called, Away}
use Rattle.field.specs.Refusals.{first_no}
use Rattle.page.specs.Pages.{q_list}
use Rattle.sheet.specs.Content.{Content}
use Rattle.sheet.specs.Questions.{answered}
use Rattle.sheet.specs.Trials.{Held, q_no_trial}
use Rattle.roll.specs.Records.{pace_kind, enter_kind, call_kind, away_kind}

-- two and four bytes, high byte first, signed ones in two's complement
abbrev pub half_bytes : ℕ → List ℕ
half_bytes n = (n / 256 % 256) ∷ (n % 256) ∷ []

abbrev pub word_bytes : ℤ → List ℕ
word_bytes z = let n = of_z w32 z in (n / 16777216 % 256) ∷ (n / 65536 % 256) ∷ (n / 256 % 256) ∷ (n % 256) ∷ []

-- a record: kind, length and body
abbrev pub recorded : ℕ → List ℕ → List ℕ
recorded k body = k ∷ length body ∷ body

abbrev pub pace_record : ℕ → List ℕ
pace_record p = recorded pace_kind (half_bytes p)

-- an enter with no name
abbrev pub enter_record : ℕ → ℤ → ℤ → List ℕ
enter_record g e l = recorded enter_kind (half_bytes g ++ (word_bytes e ++ word_bytes l))

abbrev pub call_record : ℕ → ℤ → List ℕ
call_record g t = recorded call_kind (half_bytes g ++ word_bytes t)

abbrev pub away_record : ℕ → List ℕ
away_record g = recorded away_kind (half_bytes g)

-- the window as entered or last changed
abbrev pub entry : Row → List ℕ
entry r = enter_record r.number r.early r.late

-- a called group's call, and a group's that is away its call and then its away
abbrev pub standing_records : Standing → ℕ → List ℕ
standing_records Waiting g = []
standing_records (Called t) g = call_record g t
standing_records (Away t) g = call_record g t ++ away_record g

abbrev pub stand : Row → List ℕ
stand r = standing_records r.standing r.number

-- the mark TEE and version 1
abbrev pub heading : List ℕ
heading = 84 ∷ 69 ∷ 69 ∷ 0 ∷ 1 ∷ []

-- the pace, then each group in ascending number, then for each called or away group its call and, if away, its away
abbrev pub written : Content → List ℕ
written c = heading ++ (pace_record c.pace ++ (flat_map entry c.rows ++ flat_map stand c.rows))

-- the roll for a list with so much room, or the number of a refusal. 1: is no trial open? 12: is the list long enough?
abbrev pub wrote : Held → ℕ → Result (List ℕ) ℕ
wrote h room = let bs = written h.content in answered (first_no (q_no_trial h ∷ q_list bs room ∷ [])) bs
