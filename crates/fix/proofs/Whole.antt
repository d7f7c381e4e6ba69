-- A whole message: what is written is read back, and nothing else is read.
use Rattle.std.proofs.Common.{◌≡◌, ℕ, ◌-◌, ◌%◌, ◌<◌, ◌≤◌, eqb, List, [], ◌∷◌, ◌++◌, length, get_or, take, drop, sum, sym, refl, ap, ◌∙◌, subst, ⊎_elim, append_assoc, append-nil, arith, length-append}
use Rattle.std.proofs.lemmas.Bool.{cases_Bool, eqb-true, eq-eqb, cond-true, cond-false}
use Rattle.std.proofs.lemmas.List.{take_at}
use Rattle.answers.specs.Answer.{Answer, answered, refused}
use Rattle.fields.specs.Field.{front}
use Rattle.fields.specs.Row.{Read, wrong, right, shown, shown_row}
use Rattle.fields.proofs.Rows.{no}
use Rattle.fix.specs.Command.{Command, new, cancel, Valid}
use Rattle.fix.specs.Layout.{check_sum, header}
use Rattle.fix.specs.Message.{Form, form, values_of, command_of, checked, whole, parse, with_length, leading, parse_first, body_by, front_by, render}
use Rattle.fix.proofs.Checks.{command_back}
use Rattle.fix.proofs.Values.{kind_of, fits, values_back}
use Rattle.fix.proofs.Lengths.{body_length, render_length}
use Rattle.fix.proofs.Forms.{form_back, form_only}

-- the count and the sum of a message of three parts
module _ (a b T : List ℕ) where
  counted : length (b ++ T) - length T ≡ length b
  counted = simp length-append (omega arith)

  summed : take (length (a ++ (b ++ T)) - length T) (a ++ (b ++ T)) ≡ a ++ b
  summed =
      let n : length (a ++ b) ≡ length (a ++ (b ++ T)) - length T = simp length-append (omega arith) in
      ap (take (length (a ++ (b ++ T)) - length T)) (sym (append_assoc a b T)) ∙ take_at (a ++ b) T _ n

  checked_back : (n s : ℕ) (vs : List ℕ) → n ≡ length b → s ≡ sum (a ++ b) % 256 → checked (a ++ (b ++ T)) (record { count = n; values = vs; sum = s; body = b ++ T; trailer = T }) ≡ answered (command_of vs)
  checked_back n s vs p q = cond-true _ _ _ (eq-eqb _ _ (p ∙ sym counted)) ∙ cond-true _ _ _ (eq-eqb _ _ (q ∙ ap (λ l. sum l % 256) (sym summed)))

checked_only : (bs : List ℕ) (f : Form) (c : Command) → checked bs f ≡ answered c → (f.count ≡ length f.body - length f.trailer) × (f.sum ≡ sum (take (length bs - length f.trailer) bs) % 256) × (command_of f.values ≡ c)
checked_only bs f c e =
    ⊎_elim
    (λ p. ⊎_elim
    (λ q.
    let g : answered (command_of f.values) ≡ answered c = sym (cond-true _ _ _ q) ∙ sym (cond-true _ _ _ p) ∙ e in
    let is : command_of f.values ≡ c = cc in
    (eqb-true _ _ p, eqb-true _ _ q, is))
    (λ q. let g : refused 13 [] ≡ answered c = sym (cond-false _ _ _ q) ∙ sym (cond-true _ _ _ p) ∙ e in no (cc))
    (cases_Bool (eqb f.sum (sum (take (length bs - length f.trailer) bs) % 256))))
    (λ p. let g : refused 12 [] ≡ answered c = sym (cond-false _ _ _ p) ∙ e in no (cc))
    (cases_Bool (eqb f.count (length f.body - length f.trailer)))

regroup : (a b d rest : List ℕ) → ((a ++ b) ++ d) ++ rest ≡ a ++ (b ++ (d ++ rest))
regroup a b d rest = simp append_assoc

values_split : (c : Command) → values_of c ≡ get_or (values_of c) 0 0 ∷ drop 1 (values_of c)
values_split (new o) = refl
values_split (cancel o) = refl

-- what is written is read back
module _ (c : Command) (valid : Valid c) (rest : List ℕ) where
  abbrev body : List ℕ
  body = body_by (values_of c)

  abbrev head : List ℕ
  head = shown_row header (0 ∷ length body ∷ [])

  abbrev total : ℕ
  total = sum (head ++ body) % 256

  abbrev end : List ℕ
  end = shown check_sum total ++ rest

  abbrev of_values : List ℕ → Form
  of_values vs = record { count = length body; values = vs; sum = total; body = body_by vs ++ end; trailer = end }

  render_is : render c ++ rest ≡ head ++ (body ++ end)
  unfolding render
  render_is = regroup head body (shown check_sum total) rest

  render_form : form (render c ++ rest) ≡ right (of_values (values_of c)) rest
  render_form =
      let size = body_length c valid in
      let small : total < 1000 = omega arith in
      ap form render_is
      ∙ subst (λ l. form (head ++ (body_by l ++ end)) ≡ right (of_values l) rest) (sym (values_split c)) (form_back (get_or (values_of c) 0 0) (drop 1 (values_of c)) (length body) total rest (kind_of c) (fits c valid) (omega arith) (omega arith) small)

  render_checked : checked (render c ++ rest) (of_values (values_of c)) ≡ answered c
  render_checked =
      ap (λ l. checked l (of_values (values_of c))) render_is
      ∙ checked_back head body end (length body) total (values_of c) refl refl ∙ ap answered (command_back c)

  pub first_written_is_read : parse_first (render c ++ rest) ≡ answered (c, length (render c))
  unfolding parse_first
  first_written_is_read =
      let n : length (render c ++ rest) - length rest ≡ length (render c) = simp length-append (omega arith) in
      ap (leading (render c ++ rest)) render_form
      ∙ ap (with_length (length (render c ++ rest) - length rest)) render_checked ∙ ap (λ m. answered (c, m)) n

pub written_is_read : (c : Command) → Valid c → parse (render c) ≡ answered c
unfolding parse
written_is_read c valid =
    ap (λ l. whole l (form l)) (sym (append-nil (render c)))
    ∙ ap (whole (render c ++ [])) (render_form c valid []) ∙ render_checked c valid []

-- and nothing else is read
spelt : (bs : List ℕ) (f : Form) (rest : List ℕ) (c : Command) → form bs ≡ right f rest → checked bs f ≡ answered c → (bs ≡ render c ++ rest) × Valid c
unfolding render
spelt bs f rest c is ok =
    let p = form_only bs f rest is in
    let q = checked_only bs f c ok in
    let T = shown check_sum f.sum ++ rest in
    let b = body_by f.values in
    let h = shown_row header (0 ∷ f.count ∷ []) in
    let v = values_back f.values p.fit in
    let mid : f.body ≡ b ++ T = p.middle ∙ ap (λ l. b ++ l) p.last in
    let bs-is : bs ≡ h ++ (b ++ T) = p.head ∙ ap (λ l. h ++ l) mid in
    let n-is : f.count ≡ length b = q.0 ∙ (λ i. length (mid i) - length (p.last i)) ∙ counted h b T in
    let s-is : f.sum ≡ sum (front_by f.values) % 256 =
    q.1 ∙ (λ i. sum (take (length (bs-is i) - length (p.last i)) (bs-is i)) % 256) ∙ ap (λ l. sum l % 256) (summed h b T)
    ∙ ap (λ n. sum (shown_row header (0 ∷ n ∷ []) ++ b) % 256) n-is in
    let vs-is : f.values ≡ values_of c = sym v.0 ∙ ap values_of q.2 in (
      bs-is ∙ sym (regroup h b (shown check_sum f.sum) rest)
          ∙ (λ i. ((shown_row header (0 ∷ n-is i ∷ []) ++ b) ++ shown check_sum (s-is i)) ++ rest)
          ∙ (λ i. (front_by (vs-is i) ++ shown check_sum (sum (front_by (vs-is i)) % 256)) ++ rest),
      subst Valid q.2 v.1,
    )

whole_answered : (bs : List ℕ) (x : Read Form) (c : Command) → form bs ≡ x → whole bs x ≡ answered c → (bs ≡ render c) × Valid c
whole_answered bs (wrong left) c is e = no (cc)
whole_answered bs (right f []) c is e = let p = spelt bs f [] c is e in (p.0 ∙ append-nil (render c), p.1)
whole_answered bs (right f (b ∷ more)) c is e = no (cc)

pub read_is_written : (bs : List ℕ) (c : Command) → parse bs ≡ answered c → (bs ≡ render c) × Valid c
unfolding parse
read_is_written bs c e = whole_answered bs (form bs) c refl e

with_length_answered : (m : ℕ) (a : Answer Command) (c : Command) (n : ℕ) → with_length m a ≡ answered (c, n) → (a ≡ answered c) × (m ≡ n)
with_length_answered m (answered d) c n e = let pair : ◌≡◌ {A = Command × ℕ} (d, m) (c, n) = cc in (ap (λ x. answered x.0) pair, ap (λ x. x.1) pair)
with_length_answered m (refused k figures) c n e = no (cc)

leading_answered : (bs : List ℕ) (x : Read Form) (c : Command) (n : ℕ) → form bs ≡ x → leading bs x ≡ answered (c, n) → (rest : List ℕ) × (bs ≡ render c ++ rest) × (n ≡ length (render c)) × Valid c
leading_answered bs (wrong left) c n is e = no (cc)
leading_answered bs (right f rest) c n is e =
    let l = with_length_answered (length bs - length rest) (checked bs f) c n e in
    let p = spelt bs f rest c is l.0 in
    let long = ap length p.0 ∙ length-append (render c) rest in
    (rest, p.0, omega (arith, l.1), p.1)

pub first_read_is_written : (bs : List ℕ) (c : Command) (n : ℕ) → parse_first bs ≡ answered (c, n) → (rest : List ℕ) × (bs ≡ render c ++ rest) × (n ≡ length (render c)) × Valid c
unfolding parse_first
first_read_is_written bs c n e = leading_answered bs (form bs) c n refl e

-- a message that was taken has 42 bytes or more, and lies within the run
pub first_takes : (bs : List ℕ) (c : Command) (n : ℕ) → parse_first bs ≡ answered (c, n) → (42 ≤ n) × (n ≤ length bs)
first_takes bs c n e =
    let taken = first_read_is_written bs c n e in
    let size = body_length c taken.3 in
    let long = render_length c taken.3 in
    let whole = ap length taken.1 ∙ length-append (render c) taken.0 in
    (omega (arith, taken.2), omega (arith, taken.2))

-- nothing is no message
pub first_of_nothing : parse_first [] ≡ refused 11 (0 ∷ [])
unfolding parse_first front
first_of_nothing = refl
