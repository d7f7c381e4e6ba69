-- What the test of the range tells.
use Rattle.std.proofs.Common.{◌≡◌, ℕ, ◌+◌, ◌<◌, ◌≤◌, Bool, true, false, cond, ◌&&◌, eqb, leb, List, [], ◌∷◌, length, get_or, drop, Decides, sum, sym, refl, ap, ◌∙◌, ⊎_elim, arith}
use Rattle.std.specs.List.{AllByRecursion}
use Rattle.std.proofs.lemmas.List.{at_drop_more, at_drop_all}
use Rattle.std.proofs.lemmas.Bool.{leb-true, le-leb, eqb-true, eq-eqb, ne_eqb, cases_Bool}
use Rattle.std.proofs.lemmas.Bool.Decides.{Decides-and, Decides-like}
use Rattle.std.proofs.ByRecursion.{Decides-by_and}
use Rattle.answers.specs.Answer.{answered, refused}
use Rattle.allocation.specs.Range.{most_lots, most_orders, tradable, all_tradable, in_range, tested, Tradable, InRange, TestsAsTold}
use Rattle.allocation.specs.Rows.{sum_cons}

-- ---- the answers of the test

pub tested_lengths : (q : ℕ) (ls : List ℕ) (room : ℕ) → (length ls ≡ room → ⊥) → refused 51 [] ≡ tested q ls room
unfolding tested
tested_lengths q ls room h = rw (ne_eqb (length ls) room h)

pub tested_range : (q : ℕ) (ls : List ℕ) (room : ℕ) → length ls ≡ room → in_range q ls ≡ false → refused 52 [] ≡ tested q ls room
unfolding tested
tested_range q ls room h e = rw (eq-eqb (length ls) room h) (ap (λ b. cond b (answered tt) (refused 52 [])) (sym e))

pub tested_fits : (q : ℕ) (ls : List ℕ) (room : ℕ) → length ls ≡ room → in_range q ls ≡ true → answered tt ≡ tested q ls room
unfolding tested
tested_fits q ls room h e = rw (eq-eqb (length ls) room h) (ap (λ b. cond b (answered tt) (refused 52 [])) (sym e))

apart : {a : Unit {0}} {number : ℕ} {figures : List ℕ} → answered a ≡ refused number figures → ⊥
apart e = let z : ◌≡◌ {A = ℕ} 0 1 = cc in omega arith

both : (b c : Bool) (a : Unit {0}) → answered a ≡ cond b (cond c (answered tt) (refused 52 [])) (refused 51 []) → (b ≡ true) × (c ≡ true)
both true true a e = (refl, refl)
both true false a e = absurd (apart e)
both false c a e = absurd (apart e)

-- ---- what is in range

tradable_decides : (n : ℕ) → Decides (tradable n) (Tradable n)
tradable_decides n = Decides-and (leb 1 n) (leb n most_lots) (leb-true 1 n, le-leb 1 n) (leb-true n most_lots, le-leb n most_lots)

all_decides : (ls : List ℕ) → Decides (all_tradable ls) (AllByRecursion Tradable ls)
all_decides ls = Decides-by_and tradable Tradable all_tradable tradable_decides refl (λ _ _. refl) ls

in_range_parts : (q : ℕ) (ls : List ℕ) → Decides (in_range q ls) ((length ls ≤ most_orders) × (Tradable q × AllByRecursion Tradable ls))
in_range_parts q ls = Decides-and (leb (length ls) most_orders) (tradable q && all_tradable ls) (leb-true (length ls) 1024, le-leb (length ls) most_orders) (Decides-and (tradable q) (all_tradable ls) (tradable_decides q) (all_decides ls))

pub in_range_decides : (q : ℕ) (ls : List ℕ) → Decides (in_range q ls) (InRange q ls)
in_range_decides q ls = Decides-like (in_range q ls) (λ p. record { few = p.0; incoming = p.1.0; resting = p.1.1 }) (λ r. (r.few, (r.incoming, r.resting))) (in_range_parts q ls)

pub tested_answered : (q : ℕ) (ls : List ℕ) (room : ℕ) (a : Unit {0}) → answered a ≡ tested q ls room → (length ls ≡ room) × InRange q ls
unfolding tested
tested_answered q ls room a e =
    let p = both (eqb (length ls) room) (in_range q ls) a e in
    (eqb-true (length ls) room p.0, (in_range_decides q ls).0 p.1)

pub tests : TestsAsTold
tests q ls room = record {
  lengths_differ = λ h. sym (tested_lengths q ls room h);
  out_of_range = λ h no-range. sym (tested_range q ls room h (⊎_elim (λ (e : in_range q ls ≡ true). absurd (no-range ((in_range_decides q ls).0 e))) (λ (e : in_range q ls ≡ false). e) (cases_Bool (in_range q ls))));
  fits = λ h r. sym (tested_fits q ls room h ((in_range_decides q ls).1 r));
}

-- the lots of at least one order come to something
pub sum_above : (ls : List ℕ) → AllByRecursion Tradable ls → 0 < length ls → 0 < sum ls
sum_above [] a h = absurd (omega arith)
sum_above (l ∷ ls) a h = omega (arith, a.0.0, sum_cons l ls)

-- ---- the loop over the orders

swap : (a t rest : Bool) → ((a && t) && rest) ≡ (a && (t && rest))
swap true t rest = refl
swap false t rest = refl

pub tradable_more : (a t : Bool) (ls : List ℕ) (i : ℕ) → i < length ls → t ≡ tradable (get_or ls i 0) → (a && all_tradable (drop i ls)) ≡ all_tradable ls → ((a && t) && all_tradable (drop (i + 1) ls)) ≡ all_tradable ls
tradable_more a t ls i h e inv =
    swap a t (all_tradable (drop (i + 1) ls))
    ∙ ap (λ b. a && (b && all_tradable (drop (i + 1) ls))) e
    ∙ ap (λ b. a && b) (sym (at_drop_more all_tradable ls i 0 h))
    ∙ inv

and_true : (a : Bool) → (a && true) ≡ a
and_true true = refl
and_true false = refl

pub tradable_end : (a : Bool) (ls : List ℕ) (i : ℕ) → length ls ≤ i → (a && all_tradable (drop i ls)) ≡ all_tradable ls → a ≡ all_tradable ls
tradable_end a ls i h inv = sym (and_true a) ∙ ap (λ b. a && b) (sym (at_drop_all all_tradable ls i h)) ∙ inv
