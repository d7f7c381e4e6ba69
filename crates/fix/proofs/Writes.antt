-- One write after another.
use Rattle.std.proofs.Common.{◌≡◌, ℕ, ◌+◌, ◌/◌, ◌%◌, ◌^◌, ◌<◌, ◌≤◌, List, [], ◌∷◌, ◌++◌, length, get_or, take, drop, set, decimal, sym, refl, ap, ◌∙◌, append_assoc, add-zero, add-one, arith, length-append, length-drop}
use Rattle.std.proofs.lemmas.List.{length-take-le, take-append-drop, take_at, drop_at, drop-drop, set_split, at_drop_more}
use Rattle.std.proofs.lemmas.Fmt.{decimal_step}
use Rattle.fields.specs.Field.{written}
use Rattle.fix.specs.declared.writer.Numbered.{Numbered}
use Rattle.fix.specs.declared.writer.Writer.{Writer}
use Rattle.fix.specs.Writing.{over, Fits, Wrote, numbers}

module _ (b : List ℕ) (a : ℕ) where
  abbrev front : List ℕ → List ℕ
  front s = take a b ++ s

  over_front : (s : List ℕ) → over b a s ≡ front s ++ drop (a + length s) b
  over_front s = sym (append_assoc (take a b) s (drop (a + length s) b))

  front_length : (s : List ℕ) → a ≤ length b → length (front s) ≡ a + length s
  front_length s h = length-append (take a b) s ∙ ap (λ n. n + length s) (length-take-le a b h)

  pub over_length : (s : List ℕ) → a + length s ≤ length b → length (over b a s) ≡ length b
  over_length s h =
      let f = front_length s (omega arith) in
      ap length (over_front s) ∙ length-append (front s) (drop (a + length s) b) ∙ simp length-drop (omega arith)

  drop_past : (F t : List ℕ) (n m : ℕ) → length F ≡ n → drop (n + m) (F ++ t) ≡ drop m t
  drop_past F t n m e = sym (drop-drop m n (F ++ t)) ∙ ap (drop m) (drop_at F t n e)

  -- the second text over the first's end
  pub over_more : (s t : List ℕ) → a + length s + length t ≤ length b → over (over b a s) (a + length s) t ≡ over b a (s ++ t)
  over_more s t h =
      let f = front_length s (omega arith) in
      let rest = drop (a + length s) b in
      let count : a + length s + length t ≡ a + length (s ++ t) = simp length-append (omega arith) in
      ap (λ l. over l (a + length s) t) (over_front s)
      ∙ (λ i. take_at (front s) rest (a + length s) f i ++ (t ++ drop_past (front s) rest (a + length s) (length t) f i))
      ∙ ap (λ l. front s ++ (t ++ l)) (drop-drop (length t) (a + length s) b ∙ ap (λ n. drop n b) count)
      ∙ regroup (take a b) s t (drop (a + length (s ++ t)) b)
    where
      regroup : (x s t y : List ℕ) → (x ++ s) ++ (t ++ y) ≡ x ++ ((s ++ t) ++ y)
      regroup x s t y = simp append_assoc

pub over_one : (b : List ℕ) (a x : ℕ) → a < length b → set b a x ≡ over b a (x ∷ [])
over_one b a x h = set_split b a x h ∙ ap (λ n. take a b ++ x ∷ drop n b) (sym (add-one a))

-- one byte more
pub over_byte : (b : List ℕ) (a x : ℕ) (s : List ℕ) → a + length s < length b → set (over b a s) (a + length s) x ≡ over b a (s ++ x ∷ [])
over_byte b a x s h =
    let long = over_length b a s (omega arith) in
    over_one (over b a s) (a + length s) x (omega arith) ∙ over_more b a s (x ∷ []) (omega arith)

-- a write, and then another behind it
module _ {u v : Writer} (s t : List ℕ) (first : Wrote u v s) (room : Fits u (s ++ t)) where
  all : length (s ++ t) ≡ length s + length t
  all = length-append s t

  same_length : length v.out.now ≡ length u.out.now
  same_length = let n = all in ap length first.is ∙ over_length u.out.now u.at s (omega arith)

  pub fits_after : Fits v t
  fits_after =
      let n = all in
      let long = same_length in
      omega (arith, first.ends)

  pub wrote_more : {w : Writer} → Wrote v w t → Wrote u w (s ++ t)
  wrote_more second = let n = all in record {
    same = second.same ∙ first.same;
    ends = omega (arith, first.ends, second.ends);
    is = second.is ∙ (λ i. over (first.is i) (first.ends i) t) ∙ over_more u.out.now u.at s t (omega arith);
  }

pub fits_front : (u : Writer) (s t : List ℕ) → Fits u (s ++ t) → Fits u s
fits_front u s t room = let n = length-append s t in omega arith

pub wrote_none : (u : Writer) → Wrote u u []
wrote_none u = record { same = refl; ends = omega arith; is = sym (take-append-drop u.at u.out.now) ∙ ap (λ n. take u.at u.out.now ++ drop n u.out.now) (sym (add-zero u.at)) }

-- a field: its tag, "=", its value and the byte 1
pub wrote_field : {u a b c d : Writer} (D v : List ℕ) → Fits u (D ++ 61 ∷ (v ++ 1 ∷ [])) → Wrote u a D → Wrote a b (61 ∷ []) → Wrote b c v → Wrote c d (1 ∷ []) → Wrote u d (D ++ 61 ∷ (v ++ 1 ∷ []))
wrote_field D v room tag equals value end =
    let at_equals = fits_after D (61 ∷ (v ++ 1 ∷ [])) tag room in
    let at_value = fits_after (61 ∷ []) (v ++ 1 ∷ []) equals at_equals in
    wrote_more D _ tag room (wrote_more (61 ∷ []) _ equals at_equals (wrote_more v _ value at_value end))

-- a number, by its last digit
pub last_digit : (n : ℕ) → 10 ≤ n → n < 2 ^ 64 → decimal n ≡ decimal (n / 10) ++ (48 + n % 10) ∷ []
last_digit n h small = decimal_step n h small

-- fields with numbers: the one at i, and those after it
abbrev pub nothing : Numbered
nothing = record { tag = 0; number = 0 }

abbrev pub text_of : Numbered → List ℕ
text_of f = written f.tag (decimal f.number)

module _ (fs : List Numbered) (i : ℕ) (h : i < length fs) where
  abbrev here : Numbered
  here = get_or fs i nothing

  pub next : numbers (drop i fs) ≡ text_of here ++ numbers (drop (i + 1) fs)
  next = at_drop_more numbers fs i nothing h
