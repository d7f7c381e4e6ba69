-- The parts of a message that the writer writes one after the other.
use Rattle.std.proofs.Common.{◌≡◌, ℕ, ◌+◌, ◌%◌, ◌<◌, ◌≤◌, List, [], ◌∷◌, ◌++◌, length, take, drop, codes, decimal, sum, sym, ap, ◌∙◌, subst, append_assoc, zero-add, arith}
use Rattle.std.proofs.lemmas.Bool.{lt-leb, cond-false}
use Rattle.std.proofs.lemmas.List.{take_at}
use Rattle.answers.specs.Answer.{refused}
use Rattle.fields.specs.Field.{written}
use Rattle.fields.specs.Row.{shown_row}
use Rattle.fix.specs.declared.writer.Numbered.{Numbered}
use Rattle.fix.specs.declared.command.Command as code
use Rattle.fix.specs.declared.command.Command.TheVariants as cases
use Rattle.fix.specs.declared.command.NewOrder as code_order
use Rattle.fix.specs.declared.command.Cancel as code_cancel
use Rattle.fix.specs.Command.{Command, figures, order_figures, cancel_figures}
use Rattle.fix.specs.Layout.{three_digits, new_order_fields, cancel_fields}
use Rattle.fix.specs.Message.{values_of, new_order_values, cancel_values, body_by, front_by, render}
use Rattle.fix.specs.Refusal.{room}
use Rattle.fix.specs.declared.writer.Writer.{Writer}
use Rattle.fix.specs.Writing.{over, over_front, Fits, Wrote, numbers}
use Rattle.fix.proofs.Writes.{fits_after, fits_front, wrote_more}

-- a body is its kind and the fields after it
pub new_order_body : (c : code.Command) (o : code_order.NewOrder) (fs : List Numbered) → c ≡ cases.New o → numbers fs ≡ shown_row new_order_fields (new_order_values (order_figures o)) → written 35 (68 ∷ []) ++ numbers fs ≡ body_by (values_of (figures c))
new_order_body c o fs is e = ap (λ l. written 35 (68 ∷ []) ++ l) e ∙ ap (λ d. body_by (values_of (figures d))) (sym is)

pub cancel_body : (c : code.Command) (o : code_cancel.Cancel) (fs : List Numbered) → c ≡ cases.Cancel o → numbers fs ≡ shown_row cancel_fields (cancel_values (cancel_figures o)) → written 35 (70 ∷ []) ++ numbers fs ≡ body_by (values_of (figures c))
cancel_body c o fs is e = ap (λ l. written 35 (70 ∷ []) ++ l) e ∙ ap (λ d. body_by (values_of (figures d))) (sym is)

-- from the first byte of a buffer on
pub at_front : {u v : Writer} (text : List ℕ) → u.at ≡ 0 → Wrote u v text → (v.at ≡ length text) × (v.out.now ≡ over_front u.out.now text)
at_front {u = u} text start w =
    (w.ends ∙ ap (λ a. a + length text) start ∙ zero-add (length text), w.is ∙ ap (λ a. over u.out.now a text) start ∙ ap (λ n. text ++ drop n u.out.now) (zero-add (length text)))

-- a whole message
module _ (c : Command) where
  abbrev body : List ℕ
  body = body_by (values_of c)

  abbrev head : List ℕ
  head = written 8 (codes "FIX.4.4")

  abbrev count : List ℕ
  count = written 9 (decimal (length body))

  abbrev front : List ℕ
  front = front_by (values_of c)

  abbrev trailer : List ℕ
  trailer = written 10 (three_digits (sum front % 256))

  front_is : head ++ (count ++ body) ≡ front
  front_is = simp append_assoc

  module _ (w : Writer) (start : w.at ≡ 0) (fits : length (render c) ≤ length w.out.now) where
    all_room : Fits w (front ++ trailer)
    unfolding render
    all_room = omega (arith, start, fits)

    parts_room : Fits w (head ++ (count ++ body))
    parts_room = subst (Fits w) (sym front_is) (fits_front w front trailer all_room)

    pub head_room : Fits w head
    head_room = fits_front w head (count ++ body) parts_room

    module _ {w1 : Writer} (p1 : Wrote w w1 head) where
      count_on : Fits w1 (count ++ body)
      count_on = fits_after head (count ++ body) p1 parts_room

      pub count_room : Fits w1 count
      count_room = fits_front w1 count body count_on

      module _ {w2 : Writer} (p2 : Wrote w1 w2 count) where
        pub body_room : Fits w2 body
        body_room = fits_after count body p2 count_on

        module _ {w3 : Writer} (p3 : Wrote w2 w3 body) where
          wrote_front : Wrote w w3 front
          wrote_front = subst (Wrote w w3) front_is (wrote_more head (count ++ body) p1 parts_room (wrote_more count body p2 count_on p3))

          pub trailer_room : Fits w3 trailer
          trailer_room = fits_after front trailer wrote_front all_room

          -- what is summed
          pub summed : take w3.at w3.out.now ≡ front
          summed =
              let f = at_front front start wrote_front in
              ap (take w3.at) f.1 ∙ take_at front _ w3.at (sym f.0)

          pub whole : {w4 : Writer} → Wrote w3 w4 trailer → (w4.at ≡ length (render c)) × (w4.out.now ≡ over_front w.out.now (render c))
          unfolding render
          whole p4 = at_front (front ++ trailer) start (wrote_more front trailer wrote_front all_room p4)

-- the answer where the buffer is too short
pub no_room : (n : ℕ) (b : List ℕ) → length b < n → room n (length b) ≡ refused 91 (n ∷ [])
no_room n b h = cond-false _ _ _ (lt-leb n (length b) h)
