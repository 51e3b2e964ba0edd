use Rattle.std.proofs.Common.{◌≡◌, ◌+◌, [], ◌∷◌, ◌++◌, length, map, take, is_some, sym, ap, ◌∙◌, subst, arith}
use Rattle.std.proofs.lemmas.List.{map-append, length-map, length-take-le, take_more, take_all}
use Rattle.tl_bytes.specs.Held.{Kept}
use Rattle.tl_bytes.specs.Keys.{same_list}
use Rattle.tl_tracking.specs.Tracking.{Tracking, TracksIds, TracksClasses}
use Rattle.tl.specs.Inner.Names.{key_of}
use Rattle.tl.specs.View.{node_view}
use Rattle.tl.specs.Tracked.{AnswerIds, AnswerClasses}
use Rattle.tl.proofs.Tracked.{asked-first}
use Rattle.tl.proofs.parser.tracking.tracking_of.Goals as goal

pub loop-number-init : goal.loop-number-init
loop-number-init c = record { asked = asked-first c.args.options (key_of c.args.options (map node_view c.args.nodes.now)) c.empty_tracking-tracking.result c.empty_tracking-tracking.ensures.value; ids = c.empty_tracking-tracking.ensures.ids; classes = c.empty_tracking-tracking.ensures.classes; key = ap (λ (t : Tracking Kept). t.key) c.empty_tracking-tracking.ensures.value }

pub loop-number-preserved : goal.loop-number-preserved
loop-number-preserved c =
    let all = c.args.nodes.now in
    let i = c.loop-number.number in
    let node = c.index-nodes-number.result in
    let before = map node_view (take i all) in
    let place : i ≡ length before = sym (length-map (take i all) node_view ∙ length-take-le i all (omega (arith, c.loop-number-test.true))) in
    let more : map node_view (take (i + 1) all) ≡ before ++ node_view node ∷ [] =
    ap (map node_view) (take_more all i node c.loop-number-test.true ∙ ap (λ y. take i all ++ y ∷ []) (sym c.index-nodes-number.is)) ∙ map-append node_view (take i all) (node ∷ []) in
    let old = c.loop-number.invariant in
    let ids : AnswerIds c.note_id.new.tracking (before ++ node_view node ∷ []) = c.in_ok-note_id.ensures.ids before place old.ids in
    let kept : AnswerClasses c.note_id.new.tracking before = subst (λ m. TracksClasses (λ (b : Kept). b.list) same_list m before) (sym c.note_id.ensures.classes) old.classes in
    let classes : AnswerClasses c.note_class.new.tracking (before ++ node_view node ∷ []) = c.in_ok-note_class.ensures.classes before place kept in
    record {
      asked = record { ids = ap is_some c.note_class.ensures.ids ∙ c.note_id.ensures.tracked ∙ old.asked.ids; classes = c.note_class.ensures.tracked ∙ ap is_some c.note_id.ensures.classes ∙ old.asked.classes };
      ids = subst (λ nodes. AnswerIds c.note_class.new.tracking nodes) (sym more) (subst (λ m. TracksIds (λ (b : Kept). b.list) same_list m (before ++ node_view node ∷ [])) (sym c.note_class.ensures.ids) ids);
      classes = subst (λ nodes. AnswerClasses c.note_class.new.tracking nodes) (sym more) classes;
      key = c.note_class.ensures.key ∙ c.note_id.ensures.key ∙ old.key;
    }

pub returns-clause-asked : goal.returns-clause-asked
returns-clause-asked c = c.loop-number.invariant.asked

pub returns-clause-ids : goal.returns-clause-ids
returns-clause-ids c = subst (λ nodes. AnswerIds c.loop-number.tracking (map node_view nodes)) (take_all c.loop-number.number c.args.nodes.now c.loop-number-test.false) c.loop-number.invariant.ids

pub returns-clause-classes : goal.returns-clause-classes
returns-clause-classes c = subst (λ nodes. AnswerClasses c.loop-number.tracking (map node_view nodes)) (take_all c.loop-number.number c.args.nodes.now c.loop-number-test.false) c.loop-number.invariant.classes
