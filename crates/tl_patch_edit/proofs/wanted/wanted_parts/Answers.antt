use Rattle.std.proofs.Common.{Err, None, Option, if◌then◌else◌, option_map, slice_get, rules, ◌≡◌, ◌≤◌, ◌-◌, ◌++◌, drop, length, ℕ, ◌+◌, Bool, true, false, refl, List, [], ◌∷◌, ap, sym, subst, ◌∙◌, arith}
use Rattle.std.proofs.lemmas.List.{drop_all, drop_more, length-drop, take_all}
use Rattle.tl_patch_edit.specs.Asks.{IsWantedFrom, ask_view, asks_view, placed_of}
use Rattle.tl_patch_edit.specs.Inner.Parts.{Part, part_view, parts_view}
use Rattle.tl_patch_edit.specs.Inner.Seams.{parted}
use Rattle.tl_patch_edit.specs.Seams.{behind, last_of}
use Rattle.tl_patch_edit.specs.Inner.Causes.{IsWithin}
use Rattle.tl_patch_edit.proofs.Lists.{length_view}
use Rattle.tl_patch_edit.proofs.Refusals.{err_is, one_among, one_refused, ordered_more}
use Rattle.tl_patch_edit.specs.declared.part.Part.{Part as CodePart}
use Rattle.tl_patch_edit.specs.declared.tag.ReadyAsk.{ReadyAsk}
use Rattle.tl_patch_edit.proofs.Splicing.{all_wanted, step_more}
use Rattle.tl_patch_spec.specs.Patches.{Put}
use Rattle.tl_patch_spec.specs.Splices.{Splice, are_ordered}
use Rattle.tl_patch_edit.proofs.wanted.wanted_parts.Goals as goal

pub loop-at-preserved : goal.loop-at-preserved
loop-at-preserved c =
    let asks : List ReadyAsk = c.args.asks.now in
    let xs : List CodePart = c.args.parts.now in
    let X : List Part = parts_view xs in
    let at : ℕ = c.loop-at.at in
    let done : ℕ = c.loop-at.done in
    let one : ReadyAsk = c.index-asks-at.result in
    let within : one.placed.ask.from ≤ length xs = subst (IsWithin (length xs)) (sym c.index-asks-at.is) (c.requires.within at one c.loop-at-test.true) in
    let left : drop at asks ≡ one ∷ drop (at + 1) asks = drop_more asks at one c.loop-at-test.true ∙ ap (λ (r : ReadyAsk). r ∷ drop (at + 1) asks) (sym c.index-asks-at.is) in
    let more : List (Splice Put) = asks_view (placed_of (drop (at + 1) asks)) in
    let all : List (Splice Put) = asks_view (placed_of asks) in
    let old : List Part = parts_view c.loop-at.wanted.items in
    let mid : List Part = parts_view c.copy.new.out.items in
    let y : Option Part = option_map part_view c.part_behind.result in
    let next : y ≡ behind X more one.placed.ask.until =
    c.part_behind.ensures ∙ ap (λ (v : Bool). if v then None else slice_get X one.placed.ask.until) c.is_next_at-is_next.ensures in
    record {
      within = (c.follows-follows.ensures.until c.if-not-follows.false);
      ordered = c.loop-at.invariant.ordered ∙ ordered_more asks at done (length xs) one true left (sym c.follows-follows.ensures.is ∙ c.if-not-follows.false);
      rest = step_more xs done (ask_view one.placed.ask) more all (parts_view c.in_ok-put.put.items) old mid (parts_view c.push_put.new.out.items) y
          (c.follows-follows.ensures.done c.if-not-follows.false) within (c.follows-follows.ensures.order c.if-not-follows.false) (c.follows-follows.ensures.until c.if-not-follows.false) c.in_ok-put.ensures.put
          c.in_ok-copy.ensures next
          (c.in_ok-push_put.ensures ∙ ap (λ (ps : List CodePart). mid ++ parted (last_of None mid) (parts_view ps) y) c.as_slice.ensures.value)
          (λ rest w. c.loop-at.invariant.rest rest (subst (λ (rs : List ReadyAsk). IsWantedFrom (last_of None old) done (asks_view (placed_of rs)) X rest) (sym left) w));
    }

pub returns-then-not-follows-clause-error : goal.returns-then-not-follows-clause-error
returns-then-not-follows-clause-error c =
    let asks : List ReadyAsk = c.args.asks.now in
    let at : ℕ = c.loop-at.at in
    let one : ReadyAsk = c.index-asks-at.result in
    let left : drop at asks ≡ one ∷ drop (at + 1) asks = drop_more asks at one c.loop-at-test.true ∙ ap (λ (r : ReadyAsk). r ∷ drop (at + 1) asks) (sym c.index-asks-at.is) in
    let all : length (parts_view c.args.parts.now) ≡ length c.args.parts.now = length_view c.args.parts.now in (
      one.placed,
      record { among = one_among asks at one c.loop-at-test.true c.index-asks-at.is; begins = refl },
      subst (λ n. are_ordered 0 n (asks_view (placed_of asks)) ≡ false) (sym all)
          (c.loop-at.invariant.ordered ∙ ordered_more asks at c.loop-at.done (length c.args.parts.now) one false left (sym c.follows-follows.ensures.is ∙ c.if-not-follows.true)),
    )

pub returns-in_err-put-clause-error : goal.returns-in_err-put-clause-error
returns-in_err-put-clause-error c =
    let is : c.from_residual-in_err-put.result ≡ Err c.in_err-put.field-0.0 = search rules in
    err_is _ _ _ is (one_refused (parts_view c.args.parts.now) (placed_of c.args.asks.now) c.index-asks-at.result.placed _
    (one_among c.args.asks.now c.loop-at.at c.index-asks-at.result c.loop-at-test.true c.index-asks-at.is) c.in_err-put.ensures.error)

pub returns-clause-wanted : goal.returns-clause-wanted
returns-clause-wanted c =
    let asks : List ReadyAsk = c.args.asks.now in
    let xs : List CodePart = c.args.parts.now in
    let all : List (Splice Put) = asks_view (placed_of asks) in
    let none : drop c.loop-at.at asks ≡ [] = drop_all c.loop-at.at asks c.loop-at-test.false in
    all_wanted xs c.loop-at.done all (parts_view c.loop-at.wanted.items) (parts_view c.copy-2.new.out.items)
    (c.in_ok-copy-2.ensures ∙ ap (λ (zs : List CodePart). parts_view c.loop-at.wanted.items ++ parts_view zs) (take_all (length xs - c.loop-at.done) (drop c.loop-at.done xs) (omega (arith, length-drop c.loop-at.done xs))))
    (λ rest w. c.loop-at.invariant.rest rest (subst (λ (rs : List ReadyAsk). IsWantedFrom (last_of None (parts_view c.loop-at.wanted.items)) c.loop-at.done (asks_view (placed_of rs)) (parts_view xs) rest) (sym none) w))
