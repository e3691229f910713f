use Rattle.std.proofs.Common.{◌≡◌, ℕ, ℤ, Ok, Err, refl, ap, ◌∙◌, w32, to_z, of_z, rules}
use Rattle.sheet.specs.declared.sheet.trial.Slip.{Slip}
use Rattle.sheet.specs.Calls.{Enter, Change, CallUp, Order, Through, change_made}
use Rattle.sheet.specs.Content.{order_of}
use Rattle.sheet.specs.Sheets.{content}
use Rattle.sheet.specs.Answers.{slip, count, said_by, said_back}
use Rattle.sheet.specs.Book.{lists}
use Rattle.sheet.proofs.Plain.{enter_plain, change_plain, withdraw_plain, pace_plain, call_plain, stand_down_plain, away_plain}
use Rattle.sheet.proofs.Refusing.{said_alone, said_with_slip}
use Rattle.sheet.proofs.Steps.{makes_goes_on, open_goes_on, keep_goes_on, back_goes_on, starts_go_on, spans_go_on, range_goes_on}
use Rattle.sheet.proofs.sheet.Sheet.perform.Goals as goal

-- a signed argument as the callee reads it
abbrev passed : ℤ → ℤ
passed z = to_z w32 (of_z w32 z)

enter_same : (n : ℕ) {e f l m : ℤ} → f ≡ e → m ≡ l → Enter n e l ≡ Enter n f m
enter_same n p q = cc

change_same : (n : ℕ) {e f l m : ℤ} → f ≡ e → m ≡ l → Change n e l ≡ Change n f m
change_same n p q = cc

call_same : (n : ℕ) {t u : ℤ} → u ≡ t → CallUp n t ≡ CallUp n u
call_same n p = cc

through_same : (n : ℕ) {t u : ℤ} → u ≡ t → Through n t ≡ Through n u
through_same n p = cc

pub returns-in_ok-enter-in-Enter : goal.returns-in_ok-enter-in-Enter
returns-in_ok-enter-in-Enter c =
    let x : passed c.in-Enter.early ≡ c.in-Enter.early = search rules in
    let y : passed c.in-Enter.late ≡ c.in-Enter.late = search rules in
    let b = makes_goes_on c.args.self.now c.enter.new.self _ (enter_plain c.in-Enter.number (passed c.in-Enter.early) (passed c.in-Enter.late)) (lists c.args.starts.now c.args.spans.now) _ c.args.call (Ok tt) (c.in-Enter.is ∙ enter_same c.in-Enter.number x y) refl c.in_ok-enter-in-Enter.ensures.makes in
    record { step = b.step; law = b.law }

pub returns-in_err-enter-in-Enter : goal.returns-in_err-enter-in-Enter
returns-in_err-enter-in-Enter c =
    let x : passed c.in-Enter.early ≡ c.in-Enter.early = search rules in
    let y : passed c.in-Enter.late ≡ c.in-Enter.late = search rules in
    let b = makes_goes_on c.args.self.now c.enter.new.self _ (enter_plain c.in-Enter.number (passed c.in-Enter.early) (passed c.in-Enter.late)) (lists c.args.starts.now c.args.spans.now) _ c.args.call (Err c.in_err-enter-in-Enter.field-0.0) (c.in-Enter.is ∙ enter_same c.in-Enter.number x y) (said_alone c.from_residual.result c.in_err-enter-in-Enter.field-0.0 c.from_residual.ensures.1) c.in_err-enter-in-Enter.ensures.makes in
    record { step = b.step; law = b.law }

pub returns-in_ok-change-in-Change : goal.returns-in_ok-change-in-Change
returns-in_ok-change-in-Change c =
    let x : passed c.in-Change.early ≡ c.in-Change.early = search rules in
    let y : passed c.in-Change.late ≡ c.in-Change.late = search rules in
    let b = makes_goes_on c.args.self.now c.change.new.self _ (change_plain c.in-Change.number (passed c.in-Change.early) (passed c.in-Change.late)) (lists c.args.starts.now c.args.spans.now) _ c.args.call (Ok tt) (c.in-Change.is ∙ change_same c.in-Change.number x y) refl c.in_ok-change-in-Change.ensures.makes in
    record { step = b.step; law = b.law }

pub returns-in_err-change-in-Change : goal.returns-in_err-change-in-Change
returns-in_err-change-in-Change c =
    let x : passed c.in-Change.early ≡ c.in-Change.early = search rules in
    let y : passed c.in-Change.late ≡ c.in-Change.late = search rules in
    let b = makes_goes_on c.args.self.now c.change.new.self _ (change_plain c.in-Change.number (passed c.in-Change.early) (passed c.in-Change.late)) (lists c.args.starts.now c.args.spans.now) _ c.args.call (Err c.in_err-change-in-Change.field-0.0) (c.in-Change.is ∙ change_same c.in-Change.number x y) (said_alone c.from_residual-in_err-change-in-Change.result c.in_err-change-in-Change.field-0.0 c.from_residual-in_err-change-in-Change.ensures.1) c.in_err-change-in-Change.ensures.makes in
    record { step = b.step; law = b.law }

pub returns-in_ok-withdraw-in-Withdraw : goal.returns-in_ok-withdraw-in-Withdraw
returns-in_ok-withdraw-in-Withdraw c =
    let b = makes_goes_on c.args.self.now c.withdraw.new.self _ (withdraw_plain c.in-Withdraw.number) (lists c.args.starts.now c.args.spans.now) _ c.args.call (Ok tt) c.in-Withdraw.is refl c.in_ok-withdraw-in-Withdraw.ensures in
    record { step = b.step; law = b.law }

pub returns-in_err-withdraw-in-Withdraw : goal.returns-in_err-withdraw-in-Withdraw
returns-in_err-withdraw-in-Withdraw c =
    let b = makes_goes_on c.args.self.now c.withdraw.new.self _ (withdraw_plain c.in-Withdraw.number) (lists c.args.starts.now c.args.spans.now) _ c.args.call (Err c.in_err-withdraw-in-Withdraw.field-0.0) c.in-Withdraw.is (said_alone c.from_residual-in_err-withdraw-in-Withdraw.result c.in_err-withdraw-in-Withdraw.field-0.0 c.from_residual-in_err-withdraw-in-Withdraw.ensures.1) c.in_err-withdraw-in-Withdraw.ensures in
    record { step = b.step; law = b.law }

pub returns-in_ok-pace-in-Pace : goal.returns-in_ok-pace-in-Pace
returns-in_ok-pace-in-Pace c =
    let b = makes_goes_on c.args.self.now c.pace.new.self _ (pace_plain c.in-Pace.seconds) (lists c.args.starts.now c.args.spans.now) _ c.args.call (Ok tt) c.in-Pace.is refl c.in_ok-pace-in-Pace.ensures.makes in
    record { step = b.step; law = b.law }

pub returns-in_err-pace-in-Pace : goal.returns-in_err-pace-in-Pace
returns-in_err-pace-in-Pace c =
    let b = makes_goes_on c.args.self.now c.pace.new.self _ (pace_plain c.in-Pace.seconds) (lists c.args.starts.now c.args.spans.now) _ c.args.call (Err c.in_err-pace-in-Pace.field-0.0) c.in-Pace.is (said_alone c.from_residual-in_err-pace-in-Pace.result c.in_err-pace-in-Pace.field-0.0 c.from_residual-in_err-pace-in-Pace.ensures.1) c.in_err-pace-in-Pace.ensures.makes in
    record { step = b.step; law = b.law }

pub returns-in_ok-call-in-CallUp : goal.returns-in_ok-call-in-CallUp
returns-in_ok-call-in-CallUp c =
    let x : passed c.in-CallUp.time ≡ c.in-CallUp.time = search rules in
    let b = makes_goes_on c.args.self.now c.call.new.self _ (call_plain c.in-CallUp.number (passed c.in-CallUp.time)) (lists c.args.starts.now c.args.spans.now) _ c.args.call (Ok tt) (c.in-CallUp.is ∙ call_same c.in-CallUp.number x) refl c.in_ok-call-in-CallUp.ensures.makes in
    record { step = b.step; law = b.law }

pub returns-in_err-call-in-CallUp : goal.returns-in_err-call-in-CallUp
returns-in_err-call-in-CallUp c =
    let x : passed c.in-CallUp.time ≡ c.in-CallUp.time = search rules in
    let b = makes_goes_on c.args.self.now c.call.new.self _ (call_plain c.in-CallUp.number (passed c.in-CallUp.time)) (lists c.args.starts.now c.args.spans.now) _ c.args.call (Err c.in_err-call-in-CallUp.field-0.0) (c.in-CallUp.is ∙ call_same c.in-CallUp.number x) (said_alone c.from_residual-in_err-call-in-CallUp.result c.in_err-call-in-CallUp.field-0.0 c.from_residual-in_err-call-in-CallUp.ensures.1) c.in_err-call-in-CallUp.ensures.makes in
    record { step = b.step; law = b.law }

pub returns-in_ok-stand_down-in-StandDown : goal.returns-in_ok-stand_down-in-StandDown
returns-in_ok-stand_down-in-StandDown c =
    let b = makes_goes_on c.args.self.now c.stand_down.new.self _ (stand_down_plain c.in-StandDown.number) (lists c.args.starts.now c.args.spans.now) _ c.args.call (Ok tt) c.in-StandDown.is refl c.in_ok-stand_down-in-StandDown.ensures in
    record { step = b.step; law = b.law }

pub returns-in_err-stand_down-in-StandDown : goal.returns-in_err-stand_down-in-StandDown
returns-in_err-stand_down-in-StandDown c =
    let b = makes_goes_on c.args.self.now c.stand_down.new.self _ (stand_down_plain c.in-StandDown.number) (lists c.args.starts.now c.args.spans.now) _ c.args.call (Err c.in_err-stand_down-in-StandDown.field-0.0) c.in-StandDown.is (said_alone c.from_residual-in_err-stand_down-in-StandDown.result c.in_err-stand_down-in-StandDown.field-0.0 c.from_residual-in_err-stand_down-in-StandDown.ensures.1) c.in_err-stand_down-in-StandDown.ensures in
    record { step = b.step; law = b.law }

pub returns-in_ok-away-in-SendAway : goal.returns-in_ok-away-in-SendAway
returns-in_ok-away-in-SendAway c =
    let b = makes_goes_on c.args.self.now c.away.new.self _ (away_plain c.in-SendAway.number) (lists c.args.starts.now c.args.spans.now) _ c.args.call (Ok tt) c.in-SendAway.is refl c.in_ok-away-in-SendAway.ensures in
    record { step = b.step; law = b.law }

pub returns-in_err-away-in-SendAway : goal.returns-in_err-away-in-SendAway
returns-in_err-away-in-SendAway c =
    let b = makes_goes_on c.args.self.now c.away.new.self _ (away_plain c.in-SendAway.number) (lists c.args.starts.now c.args.spans.now) _ c.args.call (Err c.in_err-away-in-SendAway.field-0.0) c.in-SendAway.is (said_alone c.from_residual-in_err-away-in-SendAway.result c.in_err-away-in-SendAway.field-0.0 c.from_residual-in_err-away-in-SendAway.ensures.1) c.in_err-away-in-SendAway.ensures in
    record { step = b.step; law = b.law }

pub returns-in_ok-open-in-Open : goal.returns-in_ok-open-in-Open
returns-in_ok-open-in-Open c =
    let e = c.in_ok-open-in-Open.ensures in
    let b = open_goes_on c.args.self.now c.open.new.self (lists c.args.starts.now c.args.spans.now) _ c.args.call c.in-Open.is (ap (said_by (λ (p : Slip). slip p.sheet)) e.answer) e.held e.saved e.number in
    record { step = b.step; law = b.law }

pub returns-in_err-open-in-Open : goal.returns-in_err-open-in-Open
returns-in_err-open-in-Open c =
    let e = c.in_err-open-in-Open.ensures in
    let b = open_goes_on c.args.self.now c.open.new.self (lists c.args.starts.now c.args.spans.now) _ c.args.call c.in-Open.is (said_alone c.from_residual-in_err-open-in-Open.result c.in_err-open-in-Open.field-0.0 c.from_residual-in_err-open-in-Open.ensures.1 ∙ ap (said_by (λ (p : Slip). slip p.sheet)) e.answer) e.held e.saved e.number in
    record { step = b.step; law = b.law }

pub returns-in_ok-keep-in-Keep : goal.returns-in_ok-keep-in-Keep
returns-in_ok-keep-in-Keep c =
    let e = c.in_ok-keep-in-Keep.ensures in
    let b = keep_goes_on c.args.self.now c.keep.new.self (lists c.args.starts.now c.args.spans.now) _ c.args.call c.in-Keep.slip c.in-Keep.is (ap said_back e.answer) e.held e.saved e.number in
    record { step = b.step; law = b.law }

pub returns-in_err-keep-in-Keep : goal.returns-in_err-keep-in-Keep
returns-in_err-keep-in-Keep c =
    let e = c.in_err-keep-in-Keep.ensures in
    let b = keep_goes_on c.args.self.now c.keep.new.self (lists c.args.starts.now c.args.spans.now) _ c.args.call c.in-Keep.slip c.in-Keep.is (said_with_slip c.from_residual-in_err-keep-in-Keep.result c.in_err-keep-in-Keep.field-0.0 c.from_residual-in_err-keep-in-Keep.ensures.1 ∙ ap said_back e.answer) e.held e.saved e.number in
    record { step = b.step; law = b.law }

pub returns-in_ok-back-in-Back : goal.returns-in_ok-back-in-Back
returns-in_ok-back-in-Back c =
    let e = c.in_ok-back-in-Back.ensures in
    let b = back_goes_on c.args.self.now c.back.new.self (lists c.args.starts.now c.args.spans.now) _ c.args.call c.in-Back.slip c.in-Back.is (ap said_back e.answer) e.held e.saved e.number in
    record { step = b.step; law = b.law }

pub returns-in_err-back-in-Back : goal.returns-in_err-back-in-Back
returns-in_err-back-in-Back c =
    let e = c.in_err-back-in-Back.ensures in
    let b = back_goes_on c.args.self.now c.back.new.self (lists c.args.starts.now c.args.spans.now) _ c.args.call c.in-Back.slip c.in-Back.is (said_with_slip c.from_residual-in_err-back-in-Back.result c.in_err-back-in-Back.field-0.0 c.from_residual-in_err-back-in-Back.ensures.1 ∙ ap said_back e.answer) e.held e.saved e.number in
    record { step = b.step; law = b.law }

pub returns-in_ok-order-in-Order : goal.returns-in_ok-order-in-Order
returns-in_ok-order-in-Order c =
    let s = c.args.self.now in
    let e = c.in_ok-order-in-Order.ensures.writes in
    let b = starts_go_on s Order (order_of (content s)) (lists c.args.starts.now c.args.spans.now) _ c.order.new.list (λ n. refl) (λ b ls told. told) refl refl c.args.call c.in-Order.is (ap (said_by count) e.answer) e.list in
    record { step = b.step; law = b.law }

pub returns-in_err-order-in-Order : goal.returns-in_err-order-in-Order
returns-in_err-order-in-Order c =
    let s = c.args.self.now in
    let e = c.in_err-order-in-Order.ensures.writes in
    let b = starts_go_on s Order (order_of (content s)) (lists c.args.starts.now c.args.spans.now) _ c.order.new.list (λ n. refl) (λ b ls told. told) refl refl c.args.call c.in-Order.is (said_alone c.from_residual-in_err-order-in-Order.result c.in_err-order-in-Order.field-0.0 c.from_residual-in_err-order-in-Order.ensures.1 ∙ ap (said_by count) e.answer) e.list in
    record { step = b.step; law = b.law }

pub returns-in_ok-through-in-Through : goal.returns-in_ok-through-in-Through
returns-in_ok-through-in-Through c =
    let s = c.args.self.now in
    let x : passed c.in-Through.time ≡ c.in-Through.time = search rules in
    let call = Through c.in-Through.number (passed c.in-Through.time) in
    let e = c.in_ok-through-in-Through.ensures.writes in
    let b = starts_go_on s call (order_of (change_made call (content s))) (lists c.args.starts.now c.args.spans.now) _ c.through.new.list (λ n. refl) (λ b ls told. told) refl refl c.args.call (c.in-Through.is ∙ through_same c.in-Through.number x) (ap (said_by count) e.answer) e.list in
    record { step = b.step; law = b.law }

pub returns-in_err-through-in-Through : goal.returns-in_err-through-in-Through
returns-in_err-through-in-Through c =
    let s = c.args.self.now in
    let x : passed c.in-Through.time ≡ c.in-Through.time = search rules in
    let call = Through c.in-Through.number (passed c.in-Through.time) in
    let e = c.in_err-through-in-Through.ensures.writes in
    let b = starts_go_on s call (order_of (change_made call (content s))) (lists c.args.starts.now c.args.spans.now) _ c.through.new.list (λ n. refl) (λ b ls told. told) refl refl c.args.call (c.in-Through.is ∙ through_same c.in-Through.number x) (said_alone c.from_residual-in_err-through-in-Through.result c.in_err-through-in-Through.field-0.0 c.from_residual-in_err-through-in-Through.ensures.1 ∙ ap (said_by count) e.answer) e.list in
    record { step = b.step; law = b.law }

pub returns-in_ok-range-in-RangeOf : goal.returns-in_ok-range-in-RangeOf
returns-in_ok-range-in-RangeOf c =
    let b = range_goes_on c.args.self.now (lists c.args.starts.now c.args.spans.now) _ c.args.call c.in-RangeOf.number (Ok c.in_ok-range-in-RangeOf.field-0) c.in-RangeOf.is c.in_ok-range-in-RangeOf.ensures.exact refl in
    record { step = b.step; law = b.law }

pub returns-in_err-range-in-RangeOf : goal.returns-in_err-range-in-RangeOf
returns-in_err-range-in-RangeOf c =
    let b = range_goes_on c.args.self.now (lists c.args.starts.now c.args.spans.now) _ c.args.call c.in-RangeOf.number (Err c.in_err-range-in-RangeOf.field-0.0) c.in-RangeOf.is c.in_err-range-in-RangeOf.ensures.exact (said_alone c.from_residual-in_err-range-in-RangeOf.result c.in_err-range-in-RangeOf.field-0.0 c.from_residual-in_err-range-in-RangeOf.ensures.1) in
    record { step = b.step; law = b.law }

pub returns-in_ok-spans-in-Spans : goal.returns-in_ok-spans-in-Spans
returns-in_ok-spans-in-Spans c =
    let e = c.in_ok-spans-in-Spans.ensures.writes in
    let b = spans_go_on c.args.self.now (lists c.args.starts.now c.args.spans.now) _ c.args.call c.spans.new.list c.in-Spans.is (ap (said_by count) e.answer) e.list in
    record { step = b.step; law = b.law }

pub returns-in_err-spans-in-Spans : goal.returns-in_err-spans-in-Spans
returns-in_err-spans-in-Spans c =
    let e = c.in_err-spans-in-Spans.ensures.writes in
    let b = spans_go_on c.args.self.now (lists c.args.starts.now c.args.spans.now) _ c.args.call c.spans.new.list c.in-Spans.is (said_alone c.from_residual-in_err-spans-in-Spans.result c.in_err-spans-in-Spans.field-0.0 c.from_residual-in_err-spans-in-Spans.ensures.1 ∙ ap (said_by count) e.answer) e.list in
    record { step = b.step; law = b.law }
