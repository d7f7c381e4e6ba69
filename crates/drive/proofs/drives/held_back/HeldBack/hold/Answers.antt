use Rattle.std.proofs.Common.{◌≡◌, ◌<◌, ◌≤◌, [], ◌∷◌, ◌++◌, is_some, length, take, map, vec_items, refl, sym, ap, ◌∙◌, subst, arith}
use Rattle.std.specs.List.{All}
use Rattle.std.proofs.lemmas.Bool.{false≢true}
use Rattle.std.proofs.lemmas.List.{length-set, map-append}
use Rattle.std.proofs.lemmas.List.Elements.{All-push, All-set}
use Rattle.std.proofs.lemmas.List.Quantifiers.{all_pairs_push}
use Rattle.arrayvec.specs.ArrayVec.{with_items}
use Rattle.drive.specs.Block.{block_size, whole}
use Rattle.drive.specs.HeldBack.{held_block, held_medium, held_numbers}
use Rattle.drive.specs.Medium.{Written}
use Rattle.drive.specs.Held.{over, held_written, out_settled, out_written, out_numbers}
use Rattle.drive.specs.Views.{Apart, blank, with_bytes, renewed, renewed_numbers, renewed_apart, rewritten, renew_here, renew_other, none_has, last_here, last_other, placed, unplaced}
use Rattle.drive.specs.declared.drives.held_back.HeldBlock.{HeldBlock}
use Rattle.drive.proofs.drives.held_back.HeldBack.hold.Goals as goal

-- where the block is held already
pub invariant_of-self : goal.invariant_of-self
invariant_of-self c =
    let d = c.args.self.now in
    let i = c.in-Some.i in
    let h = with_bytes d.held.items i c.args.bytes.now in
    let found = placed d.held.items c.args.at i (sym c.in-Some.ensures.value) in
    let is = sym (rewritten d.held c.deref_mut.result.now i c.args.bytes.now c.deref_mut.ensures.value) in
    let count = whole (length d.memory.items) in
    record {
      few = subst (λ hs. length hs ≤ 16) is (let few = d.few in let long = length-set d.held.items i h in omega arith);
      sized = subst (All (λ g. length g.bytes ≡ block_size)) is (All-set (λ g. length g.bytes ≡ block_size) d.held.items i h (omega arith) d.sized);
      below = subst (All (λ g. g.number < count)) is (All-set (λ g. g.number < count) d.held.items i h (d.below i blank found.0) d.below);
      apart = subst Apart is (renewed_apart d.held.items i c.args.bytes.now d.apart);
    }

pub returns-in-Some-clause-writes : goal.returns-in-Some-clause-writes
returns-in-Some-clause-writes c =
    let d = c.args.self.now in
    let i = c.in-Some.i in
    let bytes = c.args.bytes.now in
    let h = with_bytes d.held.items i bytes in
    let after = (with_items d.held (renewed c.deref_mut.result.now i bytes)).items in
    let found = placed d.held.items c.args.at i (sym c.in-Some.ensures.value) in
    let is = rewritten d.held c.deref_mut.result.now i bytes c.deref_mut.ensures.value in
    subst (λ b. Written (held_medium d) b bytes (over d.memory.items after)) found.1
    (held_written d after h (ap (λ hs. held_block hs h.number) is ∙ renew_here d.held.items i bytes d.apart found.0)
    (λ b ne. ap (λ hs. held_block hs b) is ∙ renew_other d.held.items i bytes d.apart found.0 b ne))

pub returns-in-Some-clause-holds : goal.returns-in-Some-clause-holds
returns-in-Some-clause-holds c =
    let d = c.args.self.now in
    let i = c.in-Some.i in
    let found = placed d.held.items c.args.at i (sym c.in-Some.ensures.value) in
    record {
      again = λ _. (ap (map (λ g. g.number)) (rewritten d.held c.deref_mut.result.now i c.args.bytes.now c.deref_mut.ensures.value) ∙ renewed_numbers d.held.items i c.args.bytes.now, refl);
      beside = λ none _. absurd (false≢true (sym none ∙ ap is_some found.2));
      in_place = λ none _. absurd (false≢true (sym none ∙ ap is_some found.2));
    }

-- where it is not
pub invariant_of-self-in-None : goal.invariant_of-self-in-None
invariant_of-self-in-None c =
    let m = c.make_room.new.self in
    let h : HeldBlock = record { number = c.args.at; bytes = c.args.bytes.now } in
    let absent = out_settled c.args.self.now m c.args.at c.make_room.ensures.out (unplaced c.args.self.now.held.items c.args.at (sym c.in-None.ensures.value)) in
    let is = sym c.push.ensures.items in
    let count = whole (length m.memory.items) in
    let there : c.args.at < count = subst (λ n. c.args.at < whole n) (sym c.make_room.ensures.out.size) c.requires.below in
    record {
      few = omega arith;
      sized = subst (All (λ g. length g.bytes ≡ block_size)) is (All-push (λ g. length g.bytes ≡ block_size) m.held.items h m.sized (omega arith));
      below = subst (All (λ g. g.number < count)) is (All-push (λ g. g.number < count) m.held.items h m.below there);
      apart = subst Apart is (all_pairs_push (λ f g. f.number ≡ g.number → ⊥) m.held.items h m.apart (none_has m.held.items c.args.at absent));
    }

pub returns-in-None-clause-writes : goal.returns-in-None-clause-writes
returns-in-None-clause-writes c =
    let d = c.args.self.now in
    let m = c.make_room.new.self in
    let h : HeldBlock = record { number = c.args.at; bytes = c.args.bytes.now } in
    let absent = out_settled d m c.args.at c.make_room.ensures.out (unplaced d.held.items c.args.at (sym c.in-None.ensures.value)) in
    let is = c.push.ensures.items in
    out_written d m _ c.args.at c.args.bytes.now c.make_room.ensures.out
    (held_written m c.push.new.self.items h (ap (λ hs. held_block hs c.args.at) is ∙ last_here m.held.items h absent) (λ b ne. ap (λ hs. held_block hs b) is ∙ last_other m.held.items h b ne))

pub returns-in-None-clause-holds : goal.returns-in-None-clause-holds
returns-in-None-clause-holds c =
    let d = c.args.self.now in
    let at = c.args.at in
    let m = c.make_room.new.self in
    let room = c.make_room.ensures in
    let h : HeldBlock = record { number = at; bytes = c.args.bytes.now } in
    let numbers = ap (map (λ g. g.number)) c.push.ensures.items ∙ map-append (λ g. g.number) m.held.items (h ∷ []) in
    let none = unplaced d.held.items at (sym c.in-None.ensures.value) in
    record {
      again = λ some. absurd (false≢true (sym none ∙ some));
      beside = λ _ free. (numbers ∙ ap (λ x. held_numbers x ++ at ∷ []) (room.free free), ap (λ x. vec_items x.memory) (room.free free));
      in_place = λ _ full.
          let fewer : length m.held.items ≡ 15 = omega (arith, (room.full full).0) in
          let front : held_numbers m ≡ take 15 (held_numbers d) = out_numbers d m room.out ∙ ap (λ n. take n (held_numbers d)) fewer in
          (numbers ∙ ap (λ xs. xs ++ at ∷ []) front, (room.full full).1);
    }
