use Rattle.std.proofs.Common.{◌≡◌, ◌≤◌, ◌+◌, ◌⊎◌, ℕ, List, true, length, drop, slice_range, subst, sym, ap, ◌∙◌, inl, inr, arith}
use Rattle.std.proofs.lemmas.List.{at_drop_all, take_rest}
use Rattle.std.proofs.lemmas.Bool.{and_parts}
use Rattle.std.specs.List.{list_any, prefix_len}
use Rattle.std.specs.Str.{bytes_eq, is_utf8}
use Rattle.tl_spec.specs.Lookup.ClassMember.{parts}
use Rattle.tl_attributes.specs.Summary.{bit_of, fingerprint_of, MayBeMember}
use Rattle.tl_attributes.proofs.Bits.{noted_more}
use Rattle.tl_attributes.proofs.ClassParts.{in_part, member_is, run_at, no_run_at}
use Rattle.tl_attributes.proofs.summary.class_bits.Goals as goal
use Rattle.tl_attributes.proofs.summary.class_bits.Goals.{then-at-end, else-at-end}

pub loop-at-init : goal.loop-at-init
loop-at-init c = λ member h. inr h

pub loop-at-preserved : goal.loop-at-preserved
loop-at-preserved c =
    let class = c.args.class.now in
    let at = c.loop-at.at in
    let n = c.part_len.result in
    let rest = parts (drop (at + n + 1) class) in
    let place : n ≡ prefix_len in_part (drop at class) = c.part_len.ensures.place ∙ ap (prefix_len in_part) (take_rest class at) in
    let within : n ≤ length (drop at class) = subst (λ r. n ≤ length r) (take_rest class at) c.part_len.ensures.within in
    λ member h.
    elim c.if-at-end.branch [
      | then-at-end w ↦
          let first = run_at class at n place within (omega arith) in
          let bit = w.bit.ensures.value ∙ ap bit_of w.from_bytes.ensures in
          subst (λ (bits : ℕ). MayBeMember bits (fingerprint_of member) ⊎ (list_any (bytes_eq member) rest ≡ true)) (sym w.bits-is)
          (noted_more c.loop-at.bits w.bit.result member (slice_range class at (at + n)) (parts (drop at class)) rest first bit (c.loop-at.invariant member h))
      | else-at-end w ↦
          let same : parts (drop at class) ≡ rest = no_run_at class at n place (omega arith) in
          subst (λ (bits : ℕ). MayBeMember bits (fingerprint_of member) ⊎ (list_any (bytes_eq member) rest ≡ true)) (sym w.bits-is)
          (subst (λ (left : List (List ℕ)). MayBeMember c.loop-at.bits (fingerprint_of member) ⊎ (list_any (bytes_eq member) left ≡ true)) same (c.loop-at.invariant member h))
    ]

pub returns : goal.returns
returns c =
    let class = c.args.class.now in
    λ member h.
    let is_part : list_any (bytes_eq member) (parts class) ≡ true = (and_parts (list_any (bytes_eq member) (parts class)) (is_utf8 class) (sym (member_is class member) ∙ h)).0 in
    elim (c.loop-at.invariant member is_part) [
      | inl noted ↦ noted
      | inr left ↦ absurd (cc (sym left ∙ ap (list_any (bytes_eq member)) (at_drop_all parts class c.loop-at.at c.loop-at-test.false)))
    ]
