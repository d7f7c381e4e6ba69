-- An order is taken out. Assumes nothing.
use Rattle.std.proofs.Common.{◌≡◌, ℕ, suc, ◌+◌, ◌<◌, Bool, true, false, cond, eqb, List, [], ◌∷◌, length, Some, None, Option, sym, refl, ap, ◌∙◌, ⊎_elim, arith}
use Rattle.std.specs.Ordering.{is_eq}
use Rattle.std.proofs.lemmas.List.{nil_from_length}
use Rattle.std.proofs.lemmas.Bool.{and_from, cases_Bool, cond-true, cond-false, cond_both}
use Rattle.ordered.specs.declared.node.Node.{Node}
use Rattle.ordered.specs.declared.key.price.Price.{Price}
use Rattle.ordered.specs.Order.{by_price}
use Rattle.ordered.specs.Row.{node_with, lookup, with_value, without}
use Rattle.ordered.specs.Kept.{Kept, Sound, with_nodes}
use Rattle.ordered.proofs.Ascends.{none_parts}
use Rattle.ordered.proofs.Lookups.{length_without}
use Rattle.ordered.proofs.Values.{length_value, sound_value}
use Rattle.level.specs.declared.level.Level.{Level as Held}
use Rattle.level.specs.Queue.{queue_of}
use Rattle.market.specs.declared.resting.Resting.{Resting}
use Rattle.market.specs.Market.{Level, is_of, in_queue, resting}
use Rattle.market.proofs.Levels.{resting_kept}
use Rattle.market.specs.Put.{kept, out_of_queue}
use Rattle.market.specs.Prices.{queue_at}
use Rattle.side.specs.Queues.{out_at}
use Rattle.side.specs.Row.{seen_as, seen, standing, InStep}
use Rattle.side.proofs.First.{standing_kept}
use Rattle.side.proofs.Found.{is_there, none_there, value_here, value_later}
use Rattle.side.proofs.Ladder.{same_is, same_choice, stands_range, stands_some, standing_head, standing_tail}

-- ---- no level at the price

pub queue_nowhere : (key : Price) (ns : List (Node Price Held)) → node_with by_price ns key ≡ None → queue_at key.0 (seen ns) ≡ []
queue_nowhere key [] none = refl
queue_nowhere key (x ∷ ns) none =
    let parts = none_parts by_price x ns key none in
    cond-false (eqb x.key.0 key.0) _ _ (sym (same_is x.key.0 key.0) ∙ parts.0) ∙ queue_nowhere key ns parts.1

pub out_nowhere : (key : Price) (member order : ℕ) (ns : List (Node Price Held)) → node_with by_price ns key ≡ None → out_at key.0 member order (seen ns) ≡ seen ns
out_nowhere key member order [] none = refl
out_nowhere key member order (x ∷ ns) none =
    let parts = none_parts by_price x ns key none in
    cond-false (eqb x.key.0 key.0) _ _ (sym (same_is x.key.0 key.0) ∙ parts.0) ∙ ap (λ ys. seen_as x ∷ ys) (out_nowhere key member order ns parts.1)

-- ---- a level at the price

pub queue_found : (key : Price) (v : Held) (ns : List (Node Price Held)) → Some v ≡ lookup by_price ns key → queue_at key.0 (seen ns) ≡ queue_of v
queue_found key v [] e = absurd (none_there key v e)
queue_found key v (x ∷ ns) e =
    sym (same_choice (λ q. q) (is_eq (by_price x.key key)) (eqb x.key.0 key.0) (queue_of v) (queue_of v) _ _ (same_is x.key.0 key.0)
    (λ t. ap queue_of (value_here x ns key v t e))
    (λ f. sym (queue_found key v ns (value_later x ns key v f e)))
    ) ∙ cond_same (is_eq (by_price x.key key))
  where
    cond_same : (b : Bool) → cond b (queue_of v) (queue_of v) ≡ queue_of v
    cond_same true = refl
    cond_same false = refl

pub kept_some : (p : ℕ) (os : List Resting) (ls : List Level) → 0 < length os → kept p os ls ≡ record { price = p; queue = os } ∷ ls
kept_some p [] ls h = absurd (omega arith)
kept_some p (o ∷ os) ls h = refl

-- the level stays
pub seen_left : (member order : ℕ) (key : Price) (v w : Held) (ns : List (Node Price Held)) → Some v ≡ lookup by_price ns key → 0 < length (queue_of w) → queue_of w ≡ out_of_queue member order (queue_of v) → seen (with_value by_price ns key w) ≡ out_at key.0 member order (seen ns)
unfolding with_value
seen_left member order key v w [] e some q = refl
seen_left member order key v w (x ∷ ns) e some q =
    same_choice seen (is_eq (by_price x.key key)) (eqb x.key.0 key.0) (record { key = x.key; value = w } ∷ ns) (x ∷ with_value by_price ns key w) _ _ (same_is x.key.0 key.0)
    (λ t. sym (kept_some x.key.0 (queue_of w) (seen ns) some) ∙ ap (λ os. kept x.key.0 os (seen ns)) (q ∙ ap (λ (l : Held). out_of_queue member order (queue_of l)) (value_here x ns key v t e)))
    (λ f. ap (λ ys. seen_as x ∷ ys) (seen_left member order key v w ns (value_later x ns key v f e) some q))

-- the level goes
seen_without : (member order : ℕ) (key : Price) (v : Held) (ns : List (Node Price Held)) → Some v ≡ lookup by_price ns key → out_of_queue member order (queue_of v) ≡ [] → seen (without by_price ns key) ≡ out_at key.0 member order (seen ns)
unfolding without
seen_without member order key v [] e q = refl
seen_without member order key v (x ∷ ns) e q =
    same_choice seen (is_eq (by_price x.key key)) (eqb x.key.0 key.0) ns (x ∷ without by_price ns key) _ _ (same_is x.key.0 key.0)
    (λ t. ap (λ os. kept x.key.0 os (seen ns)) (sym q ∙ ap (λ (l : Held). out_of_queue member order (queue_of l)) (value_here x ns key v t e)))
    (λ f. ap (λ ys. seen_as x ∷ ys) (seen_without member order key v ns (value_later x ns key v f e) q))

without_written : (key : Price) (w : Held) (ns : List (Node Price Held)) → without by_price (with_value by_price ns key w) key ≡ without by_price ns key
unfolding with_value without
without_written key w [] = refl
without_written key w (x ∷ ns) =
    let b = is_eq (by_price x.key key) in
    cond_both b (record { key = x.key; value = w } ∷ ns) (x ∷ with_value by_price ns key w) (λ (ms : List (Node Price Held)). without by_price ms key ≡ without by_price (x ∷ ns) key)
    (λ t. cond-true b _ _ t ∙ sym (cond-true b _ _ t))
    (λ f. cond-false b _ _ f ∙ ap (λ ms. x ∷ ms) (without_written key w ns) ∙ sym (cond-false b _ _ f))

pub seen_gone : (member order : ℕ) (key : Price) (v w : Held) (ns : List (Node Price Held)) → Some v ≡ lookup by_price ns key → queue_of w ≡ out_of_queue member order (queue_of v) → length (queue_of w) ≡ 0 → seen (without by_price (with_value by_price ns key w) key) ≡ out_at key.0 member order (seen ns)
seen_gone member order key v w ns e q none = ap seen (without_written key w ns) ∙ seen_without member order key v ns e (sym q ∙ nil_from_length (queue_of w) none)

pub standing_out : (p member order : ℕ) (ls : List Level) → standing ls ≡ true → standing (out_at p member order ls) ≡ true
standing_out p member order [] t = refl
standing_out p member order (l ∷ ls) t =
    let here = standing_head l ls t in
    let rest = standing_tail l ls t in
    cond_both (eqb l.price p) (kept l.price (out_of_queue member order l.queue) ls) (l ∷ out_at p member order ls) (λ (ms : List Level). standing ms ≡ true)
    (λ _. standing_kept l.price (out_of_queue member order l.queue) ls (stands_range l here) rest)
    (λ _. and_from _ _ here (standing_out p member order ls rest))

-- ---- how many rest

-- what a queue is short of after an order was looked for
abbrev pub taken_count : {A : Type 0} → Option A → ℕ
taken_count (Some x) = 1
taken_count None = 0

pub queue_out : (member order : ℕ) (q : List Resting) → length (out_of_queue member order q) + taken_count (in_queue member order q) ≡ length q
queue_out member order [] = refl
queue_out member order (r ∷ rs) = ⊎_elim
    (λ (e : is_of member order r ≡ true).
    let o : length (out_of_queue member order (r ∷ rs)) ≡ length rs = ap length (cond-true (is_of member order r) rs _ e) in
    let i : taken_count (in_queue member order (r ∷ rs)) ≡ 1 = ap taken_count (cond-true (is_of member order r) (Some r) _ e) in
    omega arith)
    (λ (e : is_of member order r ≡ false).
    let o : length (out_of_queue member order (r ∷ rs)) ≡ suc (length (out_of_queue member order rs)) = ap length (cond-false (is_of member order r) rs _ e) in
    let i : taken_count (in_queue member order (r ∷ rs)) ≡ taken_count (in_queue member order rs) = ap taken_count (cond-false (is_of member order r) (Some r) _ e) in
    omega (arith, queue_out member order rs))
    (cases_Bool (is_of member order r))

pub resting_out : (p member order : ℕ) (ls : List Level) → resting (out_at p member order ls) + taken_count (in_queue member order (queue_at p ls)) ≡ resting ls
resting_out p member order [] = refl
resting_out p member order (l ∷ ls) = ⊎_elim
    (λ (e : eqb l.price p ≡ true).
    let o : resting (out_at p member order (l ∷ ls)) ≡ resting (kept l.price (out_of_queue member order l.queue) ls) = ap resting (cond-true (eqb l.price p) _ _ e) in
    let i : taken_count (in_queue member order (queue_at p (l ∷ ls))) ≡ taken_count (in_queue member order l.queue) = ap (λ q. taken_count (in_queue member order q)) (cond-true (eqb l.price p) _ _ e) in
    omega (arith, resting_kept l.price (out_of_queue member order l.queue) ls, queue_out member order l.queue))
    (λ (e : eqb l.price p ≡ false).
    let o : resting (out_at p member order (l ∷ ls)) ≡ length l.queue + resting (out_at p member order ls) = ap resting (cond-false (eqb l.price p) _ _ e) in
    let i : taken_count (in_queue member order (queue_at p (l ∷ ls))) ≡ taken_count (in_queue member order (queue_at p ls)) = ap (λ q. taken_count (in_queue member order q)) (cond-false (eqb l.price p) _ _ e) in
    omega (arith, resting_out p member order ls))
    (cases_Bool (eqb l.price p))

pub queue_some : (key : Price) (v : Held) (ns : List (Node Price Held)) → standing (seen ns) ≡ true → Some v ≡ lookup by_price ns key → 0 < length (queue_of v)
queue_some key v [] t e = absurd (none_there key v e)
queue_some key v (x ∷ ns) t e = ⊎_elim
    (λ (h : is_eq (by_price x.key key) ≡ true). let same = ap (λ (l : Held). length (queue_of l)) (value_here x ns key v h e) in omega (arith, stands_some (seen_as x) (standing_head (seen_as x) (seen ns) t)))
    (λ (f : is_eq (by_price x.key key) ≡ false). queue_some key v ns (standing_tail (seen_as x) (seen ns) t) (value_later x ns key v f e))
    (cases_Bool (is_eq (by_price x.key key)))

-- ---- levels, spare ones and the count after an order was looked for in the level v at a rank

module _ (held : Kept Price Held) (spares memory orders : ℕ) (s : InStep held spares memory orders) (member order : ℕ) (key : Price) (v w : Held)
    (e : Some v ≡ lookup by_price held.nodes key) (q : queue_of w ≡ out_of_queue member order (queue_of v)) where
  pub counted_out : (t : Option Resting) → t ≡ in_queue member order (queue_of v) → resting (out_at key.0 member order (seen held.nodes)) + taken_count t ≡ orders
  counted_out t taken = omega (arith, s.counted, resting_out key.0 member order (seen held.nodes), ap (λ os. taken_count (in_queue member order os)) (queue_found key v held.nodes e), ap taken_count taken)

  pub left_in_step : (orders' : ℕ) (t : Option Resting) → t ≡ in_queue member order (queue_of v) → orders' + taken_count t ≡ orders → 0 < length (queue_of w) → InStep (with_nodes held (with_value by_price held.nodes key w)) spares memory orders'
  left_in_step orders' t taken less some =
      let shows = seen_left member order key v w held.nodes e some q in
      record {
        sound = sound_value by_price held key w s.sound;
        capacity = s.capacity;
        stand = ap standing shows ∙ standing_out key.0 member order (seen held.nodes) s.stand;
        together = omega (arith, s.together, length_value by_price held.nodes key w);
        reserved = s.reserved;
        counted = omega (arith, ap resting shows, counted_out t taken);
        few = omega (arith, s.few);
      }

  pub gone_in_step : (held' : Kept Price Held) (spares' memory' orders' : ℕ) (t : Option Resting) → t ≡ in_queue member order (queue_of v) → orders' + taken_count t ≡ orders → length (queue_of w) ≡ 0 → Sound by_price held' → held'.capacity ≡ held.capacity → held'.nodes ≡ without by_price (with_value by_price held.nodes key w) key → spares' ≡ spares + 1 → memory' ≡ memory → InStep held' spares' memory' orders'
  gone_in_step held' spares' memory' orders' t taken less none sound cap nodes more same =
      let shows = ap seen nodes ∙ seen_gone member order key v w held.nodes e q none in
      record {
        sound = sound;
        capacity = cap ∙ s.capacity;
        stand = ap standing shows ∙ standing_out key.0 member order (seen held.nodes) s.stand;
        together = omega (arith, s.together, ap length (nodes ∙ without_written key w held.nodes), length_without by_price held.nodes key (is_there held.nodes key v e));
        reserved = omega (arith, s.reserved);
        counted = omega (arith, ap resting shows, counted_out t taken);
        few = omega (arith, s.few);
      }
