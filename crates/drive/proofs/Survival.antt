-- What is left of a drive after a power cut.
use Rattle.std.proofs.Common.{◌≡◌, ℕ, ◌<◌, ◌⊎◌, List, [], ◌∷◌, sym, ◌∙◌, subst, inl, inr, ⊎_elim, arith}
use Rattle.std.proofs.lemmas.Bool.{cases_eq}
use Rattle.drive.specs.Act.{Act, write, flush, Acted, CutIn, CutDuring}
use Rattle.drive.specs.Medium.{Medium, Sound, Written, Flushed, CutAt}
use Rattle.drive.specs.Promise.{Writes, Spares}

-- a cut that may leave no junk, or less of it, is one that may leave more
pub cut_wider : (some more : List ℕ → Type 0) (d e : Medium) → ((c : List ℕ) → some c → more c) → CutAt some d e → CutAt more d e
cut_wider some more d e wider cut = record {
  as_many = cut.as_many;
  left = λ b h. ⊎_elim (λ s. inl s) (λ j. inr (j.0, wider (e.shown b) j.1)) (cut.left b h);
  settles = cut.settles;
}

-- what is settled is shown again
pub settled_survives : (junk : List ℕ → Type 0) (d e : Medium) → Sound d → CutAt junk d e → (b : ℕ) → b < d.count → d.settled b → e.shown b ≡ d.shown b
settled_survives junk d e sound cut b h s = ⊎_elim (λ c. sound.only b (e.shown b) h s c) (λ j. absurd (j.0 s)) (cut.left b h)

module _ {D : Type 0} (means : D → Medium) (sound : (d : D) → Sound (means d)) (junk : List ℕ → Type 0) where
  pub flushed_survives : (d f : D) (e : Medium) (b : ℕ) → Flushed (means d) (means f) → CutAt junk (means f) e → b < (means d).count → e.shown b ≡ (means d).shown b
  flushed_survives d f e b flushed cut h =
      let n = flushed.as_many in
      settled_survives junk (means f) e (sound f) cut b (omega arith) (flushed.settles b h) ∙ flushed.same b h

  -- what block b may hold after a cut in a row of acts
  abbrev Leaves : List Act → D → ℕ → List ℕ → Type 0
  Leaves acts d b c = (means d).stands b c ⊎ (Writes acts b c ⊎ (((means d).settled b × Spares acts b → ⊥) × junk c))

  at_once : (acts : List Act) (d : D) (e : Medium) (b : ℕ) → CutAt junk (means d) e → b < (means d).count → Leaves acts d b (e.shown b)
  at_once acts d e b cut h = ⊎_elim (λ s. inl s) (λ j. inr (inr ((λ both. j.0 both.0), j.1))) (cut.left b h)

  after_write : (at : ℕ) (bytes : List ℕ) (acts : List Act) (d m : D) (b : ℕ) (c : List ℕ) → Written (means d) at bytes (means m) → b < (means d).count → Leaves acts m b c → Leaves (write at bytes ∷ acts) d b c
  unfolding Writes Spares
  after_write at bytes acts d m b c w h (inl s) =
      elim (cases_eq b at) [
        | inl same ↦ ⊎_elim (λ x. inl (subst (λ k. (means d).stands k c) (sym same) x)) (λ x. inr (inl (inl (same, x)))) (w.gains c (subst (λ k. (means m).stands k c) same s))
        | inr other ↦ inl ((w.others b h other).keeps c s)
      ]
  after_write at bytes acts d m b c w h (inr (inl x)) = inr (inl (inr x))
  after_write at bytes acts d m b c w h (inr (inr j)) = inr (inr ((λ both. j.0 ((w.others b h both.1.0).stays both.0, both.1.1)), j.1))

  after_flush : (acts : List Act) (d m : D) (b : ℕ) (c : List ℕ) → Flushed (means d) (means m) → b < (means d).count → Leaves acts m b c → Leaves (flush ∷ acts) d b c
  unfolding Writes Spares
  after_flush acts d m b c f h (inl s) =
      let n = f.as_many in
      inl (subst ((means d).stands b) (sym ((sound m).only b c (omega arith) (f.settles b h) s ∙ f.same b h)) ((sound d).holds b h))
  after_flush acts d m b c f h (inr (inl x)) = inr (inl x)
  after_flush acts d m b c f h (inr (inr j)) = inr (inr ((λ both. j.0 (f.settles b h, both.1)), j.1))

  pub cut_leaves : (acts : List Act) (d : D) (e : Medium) (b : ℕ) → CutDuring means junk acts d e → b < (means d).count → Leaves acts d b (e.shown b)
  unfolding CutDuring CutIn Acted Writes Spares
  cut_leaves [] d e b cut h = at_once [] d e b cut h
  cut_leaves (flush ∷ acts) d e b (inl cut) h = at_once (flush ∷ acts) d e b cut h
  cut_leaves (flush ∷ acts) d e b (inr (inl cut)) h = at_once (flush ∷ acts) d e b cut h
  cut_leaves (flush ∷ acts) d e b (inr (inr (m, f, cut))) h =
      let n = f.as_many in
      after_flush acts d m b (e.shown b) f h (cut_leaves acts m e b cut (omega arith))
  cut_leaves (write at bytes ∷ acts) d e b (inl cut) h = at_once (write at bytes ∷ acts) d e b cut h
  cut_leaves (write at bytes ∷ acts) d e b (inr (inl cut)) h =
      ⊎_elim (λ s. ⊎_elim (λ x. inl x) (λ x. inr (inl (inl x))) s) (λ j. inr (inr ((λ both. j.0 (both.0, both.1.0)), j.1))) (cut.left b h)
  cut_leaves (write at bytes ∷ acts) d e b (inr (inr (m, w, cut))) h =
      let n = w.as_many in
      after_write at bytes acts d m b (e.shown b) w h (cut_leaves acts m e b cut (omega arith))

  none_written : (acts : List Act) (b : ℕ) (c : List ℕ) → Spares acts b → Writes acts b c → ⊥
  unfolding Writes Spares
  none_written [] b c s w = w
  none_written (flush ∷ acts) b c s w = none_written acts b c s w
  none_written (write at bytes ∷ acts) b c s (inl w) = s.0 w.0
  none_written (write at bytes ∷ acts) b c s (inr w) = none_written acts b c s.1 w

  pub spared_survives : (acts : List Act) (d : D) (e : Medium) (b : ℕ) → CutDuring means junk acts d e → b < (means d).count → (means d).settled b → Spares acts b → e.shown b ≡ (means d).shown b
  spared_survives acts d e b cut h s spares =
      ⊎_elim (λ x. (sound d).only b (e.shown b) h s x) (λ y. ⊎_elim (λ w. absurd (none_written acts b (e.shown b) spares w)) (λ j. absurd (j.0 (s, spares))) y) (cut_leaves acts d e b cut h)
