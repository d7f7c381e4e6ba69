-- What holds of each trade of a meeting.
use Rattle.std.proofs.Common.{◌≡◌, ℕ, zero, suc, ◌+◌, ◌-◌, ◌≤◌, List, [], ◌∷◌, ◌++◌, refl, subst, inl, inr, arith}
use Rattle.std.specs.List.{AllZip}
use Rattle.fix.specs.Command.{NewOrder, new, cancel}
use Rattle.market.specs.declared.resting.Resting.{Resting}
use Rattle.market.specs.declared.entry.Reason.TheVariants.{BookFull, UnknownOrder, DuplicateOrder}
use Rattle.market.specs.declared.entry.Entry.{Entry}
use Rattle.market.specs.Market.{Level, other, levels, lots_of, total}
use Rattle.market.specs.Put.{of_fills, meets}
use Rattle.market.specs.Split.{Splits}
use Rattle.market.specs.Trades.{Standing, standing_in, standing, Trades, EntriesOfOrder, EntriesOfCancel, AlwaysAnswered}
use Rattle.market.proofs.Meets.{meets_all}
use Rattle.market.proofs.Cases.{order_cases, cancel_cases}

skip : (o : NewOrder) (left : ℕ) (s : Standing) (ss : List Standing) (es : List Entry) → Trades o left ss es → Trades o left (s ∷ ss) es
skip o left s ss [] t = tt
skip o left s ss (e ∷ []) t = absurd t
skip o left s ss (e ∷ (f ∷ es)) t = inr t

-- the trades of a queue, and those that follow
trades_fills : (o : NewOrder) (price left : ℕ) (fs : List ℕ) (rs : List Resting) (ss : List Standing) (es : List Entry) → AllZip ◌≤◌ fs (lots_of rs) → total fs ≤ left
    → Trades o (left - total fs) ss es → Trades o left (standing_in price rs ++ ss) (of_fills o price left fs rs ++ es)
trades_fills o price left [] [] ss es w h t = let e : left - 0 ≡ left = omega arith in subst (λ (n : ℕ). Trades o n ss es) e t
trades_fills o price left [] (r ∷ rs) ss es w h t = absurd w
trades_fills o price left (f ∷ fs) [] ss es w h t = absurd w
trades_fills o price left (zero ∷ fs) (r ∷ rs) ss es w h t =
    let e : left - 0 ≡ left = omega arith in
    let d : left - (0 + total fs) ≡ left - 0 - total fs = omega arith in
    skip o left (record { price = price; order = r }) (standing_in price rs ++ ss) (of_fills o price (left - 0) fs rs ++ es)
    (subst (λ (n : ℕ). Trades o n (standing_in price rs ++ ss) (of_fills o price (left - 0) fs rs ++ es)) e
    (trades_fills o price (left - 0) fs rs ss es w.1 (omega arith) (subst (λ (n : ℕ). Trades o n ss es) d t)))
trades_fills o price left (suc f ∷ fs) (r ∷ rs) ss es w h t =
    let d : left - (suc f + total fs) ≡ left - suc f - total fs = omega arith in
    inl (
      record { lots = suc f; some = omega arith; enough = omega arith; within = w.0; resting = refl; incoming = refl },
      trades_fills o price (left - suc f) fs rs ss es w.1 (omega arith) (subst (λ (n : ℕ). Trades o n ss es) d t),
    )

trades_meets : (split : ℕ → List ℕ → List ℕ) → Splits split → (o : NewOrder) (left : ℕ) (ls : List Level) → Trades o left (standing ls) (meets split o left ls).entries
trades_meets split means o = meets_all split means o (λ left ls met. Trades o left (standing ls) met.entries) (λ left. tt) (λ ls. tt) (λ left l ls e. tt)
    (λ left l ls fs e f h. trades_fills o l.price left fs l.queue (standing ls) (meets split o (left - total fs) ls).entries f.within (let x = f.full in omega arith) h)

pub always_answered : (split : ℕ → List ℕ → List ℕ) → Splits split → AlwaysAnswered split
always_answered split means (new o) m =
    order_cases split o m (λ out. EntriesOfOrder o m out.entries) (λ _. inl (DuplicateOrder, refl)) (λ _ _ _. inl (BookFull, refl))
    (λ _ _. inr ((meets split o o.lots (levels (other o.side) m)).entries, refl, trades_meets split means o o.lots (levels (other o.side) m)))
always_answered split means (cancel c) m =
    cancel_cases c m (λ out. EntriesOfCancel c out.entries) (λ side r _. inr (side, r.lots, refl)) (λ _. inl (UnknownOrder, refl))
