-- Calls that fill no list and leave trials as they are: those that change rows or pace.
use Rattle.std.proofs.Common.{◌≡◌, ℕ, ℤ, Option, refl}
use Rattle.sheet.specs.Content.{Content}
use Rattle.sheet.specs.Calls.{Call, Enter, Change, Withdraw, Pace, CallUp, StandDown, SendAway, change_made}
use Rattle.sheet.specs.Trials.{Held, kind}
use Rattle.sheet.specs.Answers.{Said, refusal, refused}
use Rattle.sheet.specs.Book.{Lists, room, Told, JustDone}
use Rattle.sheet.specs.OneCall.{moved, remembered}

pub record Plain (call : Call) : Type 0 where
  pub alone : (n : ℕ) → refused (kind call) n ≡ refusal n
  pub lists : (given : Lists) → room call given ≡ 0
  pub told : (h : Held) (given : Lists) (a : Said) (left : Lists) → Told h call given a left → JustDone given a left
  pub tells : (h : Held) (given : Lists) (a : Said) (left : Lists) → JustDone given a left → Told h call given a left
  pub moves : (c : Content) (was : Option Content) → moved (kind call) call c was ≡ change_made call c
  pub stays : (c : Content) (was : Option Content) → remembered (kind call) c was ≡ was

pub enter_plain : (g : ℕ) (e l : ℤ) → Plain (Enter g e l)
enter_plain g e l = record { alone = λ n. refl; lists = λ given. refl; told = λ h given a left t. t; tells = λ h given a left t. t; moves = λ c was. refl; stays = λ c was. refl }

pub change_plain : (g : ℕ) (e l : ℤ) → Plain (Change g e l)
change_plain g e l = record { alone = λ n. refl; lists = λ given. refl; told = λ h given a left t. t; tells = λ h given a left t. t; moves = λ c was. refl; stays = λ c was. refl }

pub withdraw_plain : (g : ℕ) → Plain (Withdraw g)
withdraw_plain g = record { alone = λ n. refl; lists = λ given. refl; told = λ h given a left t. t; tells = λ h given a left t. t; moves = λ c was. refl; stays = λ c was. refl }

pub pace_plain : (p : ℕ) → Plain (Pace p)
pace_plain p = record { alone = λ n. refl; lists = λ given. refl; told = λ h given a left t. t; tells = λ h given a left t. t; moves = λ c was. refl; stays = λ c was. refl }

pub call_plain : (g : ℕ) (t : ℤ) → Plain (CallUp g t)
call_plain g t = record { alone = λ n. refl; lists = λ given. refl; told = λ h given a left u. u; tells = λ h given a left u. u; moves = λ c was. refl; stays = λ c was. refl }

pub stand_down_plain : (g : ℕ) → Plain (StandDown g)
stand_down_plain g = record { alone = λ n. refl; lists = λ given. refl; told = λ h given a left t. t; tells = λ h given a left t. t; moves = λ c was. refl; stays = λ c was. refl }

pub away_plain : (g : ℕ) → Plain (SendAway g)
away_plain g = record { alone = λ n. refl; lists = λ given. refl; told = λ h given a left t. t; tells = λ h given a left t. t; moves = λ c was. refl; stays = λ c was. refl }
