-- The form of a message, both ways.
use Rattle.std.proofs.Common.{◌≡◌, ℕ, ◌<◌, ◌≤◌, List, [], ◌∷◌, ◌++◌, get_or, Some, sym, refl, ap, ◌∙◌, subst, append_assoc, arith}
use Rattle.fields.specs.Row.{Read, right, then, step, row, shown, shown_row}
use Rattle.fields.proofs.Numerals.{numeral_back}
use Rattle.fields.proofs.Rows.{Fit, then_right, step_back, step_only, row_back, row_only}
use Rattle.fix.specs.Layout.{letter, kind, check_sum, header, fields_of}
use Rattle.fix.specs.Message.{Form, body_values, form, body_by}
use Rattle.fix.proofs.Shapes.{kind_lawful, check_sum_lawful, three_back, header_lawful, fields_lawful}

abbrev at_kind : ℕ → List ℕ → Read (List ℕ)
at_kind k rest = then (row (fields_of k) rest) (λ vs after. right (k ∷ vs) after)

body_back : (k : ℕ) (us rest : List ℕ) → letter (k ∷ []) ≡ Some k → Fit (fields_of k) us → body_values (body_by (k ∷ us) ++ rest) ≡ right (k ∷ us) rest
body_back k us rest ok fit =
    ap body_values (append_assoc (shown kind k) (shown_row (fields_of k) us) rest)
    ∙ ap (λ x. then x at_kind) (step_back kind kind_lawful k (shown_row (fields_of k) us ++ rest) ok)
    ∙ ap (λ x. then x (λ vs after. right (k ∷ vs) after)) (row_back (fields_of k) us rest (fields_lawful k) fit)

body_only : (bs vs rest : List ℕ) → body_values bs ≡ right vs rest → (bs ≡ body_by vs ++ rest) × Fit (kind ∷ fields_of (get_or vs 0 0)) vs
body_only bs vs rest e =
    let g = then_right (step kind bs) at_kind vs rest e in
    let w = then_right (row (fields_of g.0) g.1) _ vs rest g.3 in
    let whole = w.3 in
    let is : g.0 ∷ w.0 ≡ vs = cc in
    let tail : w.1 ≡ rest = cc in
    let f = step_only kind kind_lawful bs g.0 g.1 g.2 in
    let r = row_only (fields_of g.0) g.1 w.0 w.1 (fields_lawful g.0) w.2 in (
      f.0 ∙ ap (λ l. shown kind g.0 ++ l) r.0 ∙ sym (append_assoc (shown kind g.0) (shown_row (fields_of g.0) w.0) w.1) ∙ (λ i. body_by (is i) ++ tail i),
      subst (λ l. Fit (kind ∷ fields_of (get_or l 0 0)) l) is (f.1, r.1),
    )

abbrev at_trailer : List ℕ → List ℕ → List ℕ → List ℕ → ℕ → List ℕ → Read Form
at_trailer h body vs trailer s rest = right (record { count = get_or h 1 0; values = vs; sum = s; body = body; trailer = trailer }) rest

abbrev at_body : List ℕ → List ℕ → List ℕ → List ℕ → Read Form
at_body h body vs trailer = then (step check_sum trailer) (at_trailer h body vs trailer)

abbrev at_header : List ℕ → List ℕ → Read Form
at_header h body = then (body_values body) (at_body h body)

module _ (k : ℕ) (us : List ℕ) (n s : ℕ) (rest : List ℕ) where
  abbrev tail : List ℕ
  tail = shown check_sum s ++ rest

  pub form_back : letter (k ∷ []) ≡ Some k → Fit (fields_of k) us → 10 ≤ n → n ≤ 99 → s < 1000 → form (shown_row header (0 ∷ n ∷ []) ++ (body_by (k ∷ us) ++ tail)) ≡ right (record { count = n; values = k ∷ us; sum = s; body = body_by (k ∷ us) ++ tail; trailer = tail }) rest
  form_back ok fit low high small =
      ap (λ x. then x at_header) (row_back header (0 ∷ n ∷ []) (body_by (k ∷ us) ++ tail) header_lawful (refl, (numeral_back 10 99 n (omega arith) low high (omega arith), tt)))
      ∙ ap (λ x. then x (at_body (0 ∷ n ∷ []) (body_by (k ∷ us) ++ tail))) (body_back k us tail ok fit)
      ∙ ap (λ x. then x (at_trailer (0 ∷ n ∷ []) (body_by (k ∷ us) ++ tail) (k ∷ us) tail)) (step_back check_sum check_sum_lawful s rest (three_back s small))

header_shown : (h : List ℕ) → Fit header h → shown_row header h ≡ shown_row header (0 ∷ get_or h 1 0 ∷ [])
header_shown [] fit = absurd fit
header_shown (x ∷ []) fit = absurd fit.1
header_shown (x ∷ y ∷ []) fit = refl
header_shown (x ∷ y ∷ z ∷ h) fit = absurd fit.1.1

-- the parts of a message that has the form
pub record Parts (bs : List ℕ) (f : Form) (rest : List ℕ) : Type 0 where
  pub head : bs ≡ shown_row header (0 ∷ f.count ∷ []) ++ f.body
  pub middle : f.body ≡ body_by f.values ++ f.trailer
  pub last : f.trailer ≡ shown check_sum f.sum ++ rest
  pub fit : Fit (kind ∷ fields_of (get_or f.values 0 0)) f.values

pub form_only : (bs : List ℕ) (f : Form) (rest : List ℕ) → form bs ≡ right f rest → Parts bs f rest
form_only bs f rest e =
    let a = then_right (row header bs) at_header f rest e in
    let b = then_right (body_values a.1) (at_body a.0 a.1) f rest a.3 in
    let d = then_right (step check_sum b.1) (at_trailer a.0 a.1 b.0 b.1) f rest b.3 in
    let same = d.3 in
    let is : record { count = get_or a.0 1 0; values = b.0; sum = d.0; body = a.1; trailer = b.1 } ≡ f = cc in
    let tail : d.1 ≡ rest = cc in
    let x = row_only header bs a.0 a.1 header_lawful a.2 in
    let y = body_only a.1 b.0 b.1 b.2 in
    let z = step_only check_sum check_sum_lawful b.1 d.0 d.1 d.2 in
    subst (λ g. Parts bs g rest) is (record {
      head = x.0 ∙ ap (λ l. l ++ a.1) (header_shown a.0 x.1);
      middle = y.0;
      last = z.0 ∙ ap (λ l. shown check_sum d.0 ++ l) tail;
      fit = y.1;
    })
