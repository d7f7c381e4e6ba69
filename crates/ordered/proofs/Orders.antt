-- What a total order gives. Assumes nothing.
use Rattle.std.proofs.Common.{◌≡◌, true, false, Ordering, Less, Equal, Greater, sym, refl, ap, ◌∙◌, ⊎_elim, rules}
use Rattle.std.specs.Ordering.{ordering_reverse, is_lt, is_eq}
use Rattle.std.specs.Cmp.{IsTotalOrder, tied_itself}
use Rattle.std.specs.Cmp.Rules.{comparing}
use Rattle.std.proofs.lemmas.Bool.{cases_Bool, false≢true}
use Rattle.ordered.specs.Order.{Total, by_price, by_order_id}

-- the laws of a kind of key
pub total_from : {K : Type 0} {order : K → K → Ordering} → IsTotalOrder order → ((a b : K) → order a b ≡ Equal → a ≡ b) → Total order
total_from o same = record { itself = tied_itself o; same = same; turned = λ a b. o.antisymm b a; transitive = o.trans }

pub price_total : Total by_price
price_total = total_from (search (comparing, rules)) (λ a b e. search (comparing, rules))

pub order_id_total : Total by_order_id
order_id_total = total_from (search (comparing, rules)) (λ a b e. search (comparing, rules))

pub less_from : (o : Ordering) → is_lt o ≡ true → o ≡ Less
less_from Less e = refl
less_from Equal e = absurd (false≢true e)
less_from Greater e = absurd (false≢true e)

pub equal_from : (o : Ordering) → is_eq o ≡ true → o ≡ Equal
equal_from Less e = absurd (false≢true e)
equal_from Equal e = refl
equal_from Greater e = absurd (false≢true e)

pub greater_from : (o : Ordering) → is_lt o ≡ false → is_eq o ≡ false → ordering_reverse o ≡ Less
greater_from Less l e = absurd (false≢true (sym l))
greater_from Equal l e = absurd (false≢true (sym e))
greater_from Greater l e = refl

eq_reversed : (o : Ordering) → is_eq (ordering_reverse o) ≡ is_eq o
eq_reversed Less = refl
eq_reversed Equal = refl
eq_reversed Greater = refl

module _ {K : Type 0} (order : K → K → Ordering) (total : Total order) where
  pub eq_turned : (a b : K) → is_eq (order b a) ≡ is_eq (order a b)
  eq_turned a b = ap is_eq (total.turned a b) ∙ eq_reversed (order a b)

  -- what is above a key that is not less is not less either
  pub not_less_above : (a b k : K) → is_lt (order a k) ≡ false → order a b ≡ Less → is_lt (order b k) ≡ false
  not_less_above a b k not up =
      ⊎_elim
      (λ (l : is_lt (order b k) ≡ true). absurd (false≢true (sym not ∙ ap is_lt (total.transitive a b k up (less_from (order b k) l)))))
      (λ (n : is_lt (order b k) ≡ false). n)
      (cases_Bool (is_lt (order b k)))

  pub eq_itself : (key : K) → is_eq (order key key) ≡ true
  eq_itself key = ap is_eq (total.itself key)

  -- keys that differ are not equal
  pub ne_from : (a b : K) → (b ≡ a → ⊥) → is_eq (order a b) ≡ false
  ne_from a b ne =
      ⊎_elim
      (λ (e : is_eq (order a b) ≡ true). absurd (ne (sym (total.same a b (equal_from _ e)))))
      (λ (n : is_eq (order a b) ≡ false). n)
      (cases_Bool (is_eq (order a b)))

  -- two keys are not less than one another
  pub not_both : (a b : K) → order a b ≡ Less → order b a ≡ Less → ⊥
  not_both a b l m = false≢true (sym (ap is_lt (total.turned a b ∙ ap ordering_reverse l)) ∙ ap is_lt m)
