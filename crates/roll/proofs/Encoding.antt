-- What is written of a call is read as that call.
use Rattle.std.proofs.Common.{◌≡◌, ℕ, ◌+◌, ◌*◌, ◌/◌, ◌%◌, ◌<◌, List, ◌++◌, length, ℤ, Ok, refl, ap, ◌∙◌, arith, w32, SFits, to_z, of_z, rules}
use lib.Signed.{mag}
use mir.ValLaws.{of_z_fits}
use Rattle.std.proofs.lemmas.Int.{to_z-of_z}
use Rattle.sheet.specs.declared.call.Call.TheVariants.{Enter, Pace, CallUp, SendAway}
use Rattle.roll.specs.Records.{Said, plain, size, parsed}
use Rattle.roll.proofs.Whole.{is_whole, parsed_whole}
use Rattle.roll.specs.Written.{pace_record, enter_record, call_record, away_record}

half_back : (n : ℕ) → n < 65536 → n / 256 % 256 * 256 + n % 256 ≡ n
half_back n h = search rules

word_back : (n : ℕ) → n < 4294967296 → n / 16777216 % 256 * 16777216 + n / 65536 % 256 * 65536 + n / 256 % 256 * 256 + n % 256 ≡ n
word_back n h = search rules

time_back : (z : ℤ) → mag z < 2147483648 → to_z w32 (of_z w32 z / 16777216 % 256 * 16777216 + of_z w32 z / 65536 % 256 * 65536 + of_z w32 z / 256 % 256 * 256 + of_z w32 z % 256) ≡ z
time_back z h =
    let f : SFits w32 z = record { sfits = h } in
    ap (to_z w32) (word_back (of_z w32 z) (of_z_fits w32 z f).fits) ∙ to_z-of_z w32 z f

-- these bytes are a record that says this, whatever follows
pub record Encodes (bs : List ℕ) (s : Said) : Type 0 where
  pub reads : (tail : List ℕ) → parsed (bs ++ tail) ≡ Ok s
  pub long : (tail : List ℕ) → size (bs ++ tail) ≡ length bs
  pub some : 0 < length bs

pub pace_encodes : (p : ℕ) → p < 65536 → Encodes (pace_record p) (plain (Pace p))
pace_encodes p h = record {
  reads = λ tail. parsed_whole (pace_record p ++ tail) (is_whole (pace_record p ++ tail) (omega arith) (omega arith)) ∙ ap (λ (n : ℕ). Ok (plain (Pace n))) (half_back p h);
  long = λ tail. refl;
  some = omega arith;
}

pub enter_encodes : (g : ℕ) (e l : ℤ) → g < 65536 → mag e < 2147483648 → mag l < 2147483648 → Encodes (enter_record g e l) (plain (Enter g e l))
enter_encodes g e l a b c = record {
  reads = λ tail.
      parsed_whole (enter_record g e l ++ tail) (is_whole (enter_record g e l ++ tail) (omega arith) (omega arith))
      ∙ (λ i. Ok (plain (Enter (half_back g a i) (time_back e b i) (time_back l c i))));
  long = λ tail. refl;
  some = omega arith;
}

pub call_encodes : (g : ℕ) (t : ℤ) → g < 65536 → mag t < 2147483648 → Encodes (call_record g t) (plain (CallUp g t))
call_encodes g t a b = record {
  reads = λ tail.
      parsed_whole (call_record g t ++ tail) (is_whole (call_record g t ++ tail) (omega arith) (omega arith))
      ∙ (λ i. Ok (plain (CallUp (half_back g a i) (time_back t b i))));
  long = λ tail. refl;
  some = omega arith;
}

pub away_encodes : (g : ℕ) → g < 65536 → Encodes (away_record g) (plain (SendAway g))
away_encodes g a = record {
  reads = λ tail. parsed_whole (away_record g ++ tail) (is_whole (away_record g ++ tail) (omega arith) (omega arith)) ∙ ap (λ (n : ℕ). Ok (plain (SendAway n))) (half_back g a);
  long = λ tail. refl;
  some = omega arith;
}
