use Rattle.std.proofs.Common.{Bool, IsTrue, List, Some, ap, arith, false, get_or, length, refl, subst, sym, take, ℕ, ◌+◌, ◌++◌, ◌<◌, ◌≡◌, ◌∙◌}
use Rattle.std.proofs.lemmas.Bool.{lt-ltb}
use Rattle.std.specs.List.{list_all}
use Rattle.tl_dom_spec.specs.Adoption.{entry_moved, inside_of}
use Rattle.tl_dom_spec.specs.Path as dom
use Rattle.tl_dom_spec.specs.Tags.{Tag}
use Rattle.tl_tree.proofs.ActiveNumbers.{active-grown}
use Rattle.tl_tree.proofs.AdoptedOver.{adopted-over}
use Rattle.tl_tree.proofs.Chosen.{clones-first, clones-length, frames-same}
use Rattle.tl_tree.proofs.FrameParts.{grows-on}
use Rattle.tl_tree.proofs.Grown.{grows_refl}
use Rattle.tl_tree.proofs.Listed.{begins-longer}
use Rattle.tl_tree.proofs.Over.{stands-open}
use Rattle.tl_tree.proofs.Tallies.{tallied-grown}
use Rattle.tl_tree.specs.Inner.Active.{active_of, listed_of}
use Rattle.tl_tree.specs.Inner.Adopted.{AreInward, clones_at, frame_at, is_inside, renewed_over}
use Rattle.tl_tree.specs.Inner.Framed.{is_before}
use Rattle.tl_tree.specs.Inner.Frames.{frames_of, seen}
use Rattle.tl_tree.specs.Inner.Store.{Grows, is_tag_number, tag_at}
use Rattle.tl_tree.specs.Inner.Tallied.{IsTallied}
use Rattle.tl_tree.specs.declared.frame.Frame.{Frame}
use Rattle.tl_tree.specs.declared.gaps.Gaps.{Gaps}
use Rattle.tl_tree.specs.declared.store.Store.{Store}
use Rattle.tl_tree.proofs.adoption.adopt_over.Goals as goal

pub renew_over-requires-clause-within : goal.renew_over-requires-clause-within
renew_over-requires-clause-within c =
    omega (arith, c.requires.block, ap length c.choose_clones.ensures.frames)

pub renew_over-requires-clause-inward : goal.renew_over-requires-clause-inward
renew_over-requires-clause-inward c =
    subst (λ (places : List ℕ). AreInward (c.args.place + 2) c.args.block places) (sym c.as_slice.ensures.value) c.in_ok-clones.ensures.inward

pub renew_over-requires-clause-next : goal.renew_over-requires-clause-next
renew_over-requires-clause-next c =
    omega (arith, c.in_ok-clones.ensures.count, ap length c.as_slice.ensures.value)

pub renew_over-requires-clause-new : goal.renew_over-requires-clause-new
renew_over-requires-clause-new c =
    let p = c.args.path.now in
    subst (λ (xs : List Frame). IsTrue (list_all (is_before p.next) xs)) (sym c.choose_clones.ensures.frames) p.numbered

pub renew_over-requires-clause-open : goal.renew_over-requires-clause-open
renew_over-requires-clause-open c =
    let same = frames-same c.args.path.now c.choose_clones.new.path c.choose_clones.ensures.frames c.choose_clones.ensures.store in
    ap (λ fs. (get_or fs c.args.block dom.document).is_open) same ∙ c.requires.open

pub renew_over-requires-clause-around : goal.renew_over-requires-clause-around
renew_over-requires-clause-around c =
    let same = frames-same c.args.path.now c.choose_clones.new.path c.choose_clones.ensures.frames c.choose_clones.ensures.store in
    ap (λ fs. (get_or fs c.args.place dom.document).is_open) same ∙ c.requires.near.around

pub renew_over-requires-clause-here : goal.renew_over-requires-clause-here
renew_over-requires-clause-here c = λ n from to stands.
    let same = frames-same c.args.path.now c.choose_clones.new.path c.choose_clones.ensures.frames c.choose_clones.ensures.store in
    ap (λ fs. (get_or fs n dom.document).place) same
    ∙ c.requires.between n from to (ap (λ (g : Gaps). get_or g.marks.items n false) (sym c.choose_clones.ensures.gaps) ∙ stands)

pub renew_over-requires-clause-tag : goal.renew_over-requires-clause-tag
renew_over-requires-clause-tag c =
    let s = c.args.path.now.store in
    subst (λ (t : Store). IsTrue (is_tag_number t c.args.own.tag)) (sym c.choose_clones.ensures.store) (lt-ltb c.args.own.tag (length s.tags.items) c.requires.own)

pub returns-clause-ok : goal.returns-clause-ok
returns-clause-ok c =
    let p = c.args.path.now in
    let q = c.choose_clones.new.path in
    let t = c.renew_over.new.self in
    let n = c.args.place in
    let block = c.args.block in
    let mid = c.choose_clones.new.active in
    let list = c.list_new.new.active in
    let own = listed_of p.store c.args.own in
    let places = c.in_ok-clones.clones.items in
    let order = c.requires.order in
    let within = c.requires.block in
    let stored = c.choose_clones.ensures.store in
    let same = frames-same p q c.choose_clones.ensures.frames stored in
    let marks = ap (λ (g : Gaps). g.marks.items) c.choose_clones.ensures.gaps in
    let clones = clones_at (frames_of p) p.next places in
    let stands : get_or p.gaps.marks.items block false ≡ false = stands-open p block c.requires.open within in
    let around : get_or p.gaps.marks.items n false ≡ false = stands-open p n c.requires.near.around (omega arith) in
    let grows = subst (λ (s : Store). Grows s t.store) stored c.renew_over.ensures.grows in
    let least = c.list_new.ensures.tag (length p.store.tags.items) (omega (arith, c.choose_clones.ensures.tag, c.requires.listed)) c.requires.own in
    let outer : List dom.Frame → List Bool → dom.Path = λ fs ms. dom.popped_while (is_inside (Some (get_or fs n dom.document).number)) (seen ms (take block fs)) in
    let shown : List dom.Frame → List Bool → List ℕ → Tag → dom.Path = λ fs ms ns tag. renewed_over (get_or fs block dom.document) q.next tag (inside_of (get_or fs block dom.document).number (seen ms fs)) (clones_at fs p.next ns ++ outer fs ms) in
    let tag-is : tag_at q.store c.args.own.tag ≡ own.tag = ap (λ (s : Store). tag_at s c.args.own.tag) stored in
    let path =
    c.in_ok-renew_over.ensures.path
    ∙ (ap (λ fs. shown fs q.gaps.marks.items c.as_slice.result.now (tag_at q.store c.args.own.tag)) same
    ∙ (ap (λ ms. shown (frames_of p) ms c.as_slice.result.now (tag_at q.store c.args.own.tag)) marks
    ∙ (ap (λ ns. shown (frames_of p) p.gaps.marks.items ns (tag_at q.store c.args.own.tag)) c.as_slice.ensures.value
    ∙ ap (shown (frames_of p) p.gaps.marks.items places) tag-is))) in
    let top =
    subst (λ ms. (dom.top (outer (frames_of p) ms)).tag ≡ (frame_at p n).tag) marks
    (subst (λ fs. (dom.top (outer fs q.gaps.marks.items)).tag ≡ (get_or fs n dom.document).tag) same c.in_ok-renew_over.ensures.top) in
    let many : c.len-made.result ≡ length places = c.len-made.ensures ∙ c.in_ok-clones.clones.ok.0 in
    let active =
    active-grown p.store t.store grows list least
    ∙ (c.in_ok-list_new.ensures.active p.store clones (many ∙ sym (clones-length (frames_of p) p.next places)) (clones-first (frames_of p) p.next places)
    ∙ ap (λ (s : Store). entry_moved own.number q.next own.tag clones (active_of s mid)) (sym stored)) in
    adopted-over c.args.is_fostering p t list own n (n + 1) block q.next c.len-made.result places (active_of p.store c.args.active.now) (active_of q.store mid) refl order within stands around c.requires.stands c.requires.near
    c.in_ok-clones.ensures.ok path top active
    (c.in_ok-renew_over.ensures.next ∙ omega arith)
    (c.in_ok-clones.ensures.count ∙ omega arith)

pub list_new-requires-clause-new : goal.list_new-requires-clause-new
list_new-requires-clause-new c = c.choose_clones.ensures.numbered

pub choose_clones-requires-clause-stands : goal.choose_clones-requires-clause-stands
choose_clones-requires-clause-stands c = c.requires.stands

pub choose_clones-requires-clause-numbered : goal.choose_clones-requires-clause-numbered
choose_clones-requires-clause-numbered c = c.requires.numbered

pub choose_clones-requires-clause-listed : goal.choose_clones-requires-clause-listed
choose_clones-requires-clause-listed c = c.requires.listed

pub choose_clones-requires-clause-tallied : goal.choose_clones-requires-clause-tallied
choose_clones-requires-clause-tallied c = c.requires.tallied

pub list_new-requires-clause-listed : goal.list_new-requires-clause-listed
list_new-requires-clause-listed c =
    let q = c.choose_clones.new.path.store in
    let t = c.renew_over.new.self.store in
    let many = ap (λ (s : Store). length s.tags.items) c.choose_clones.ensures.store in
    let more = begins-longer q.tags.items t.tags.items c.renew_over.ensures.grows.tags in
    omega (arith, many, more, c.choose_clones.ensures.tag, c.requires.listed)

pub list_new-requires-clause-own : goal.list_new-requires-clause-own
list_new-requires-clause-own c =
    let q = c.choose_clones.new.path.store in
    let t = c.renew_over.new.self.store in
    let many = ap (λ (s : Store). length s.tags.items) c.choose_clones.ensures.store in
    let more = begins-longer q.tags.items t.tags.items c.renew_over.ensures.grows.tags in
    omega (arith, many, more, c.requires.own)

pub list_new-requires-clause-tallied : goal.list_new-requires-clause-tallied
list_new-requires-clause-tallied c =
    let q = c.choose_clones.new.path.store in
    let many = ap (λ (s : Store). length s.tags.items) c.choose_clones.ensures.store in
    tallied-grown q c.renew_over.new.self.store c.renew_over.ensures.grows c.choose_clones.new.active (omega (arith, many, c.choose_clones.ensures.tag, c.requires.listed)) c.choose_clones.ensures.tallied

pub returns-in_err-clones-clause-listed : goal.returns-in_err-clones-clause-listed
returns-in_err-clones-clause-listed c =
    omega (arith, c.choose_clones.ensures.tag, c.requires.listed)

pub returns-in_err-renew_over-clause-listed : goal.returns-in_err-renew_over-clause-listed
returns-in_err-renew_over-clause-listed c =
    omega (arith, c.choose_clones.ensures.tag, c.requires.listed)

pub returns-in_err-list_new-clause-listed : goal.returns-in_err-list_new-clause-listed
returns-in_err-list_new-clause-listed c =
    c.list_new.ensures.tag (length c.args.path.now.store.tags.items) (omega (arith, c.choose_clones.ensures.tag, c.requires.listed)) c.requires.own

pub returns-clause-listed : goal.returns-clause-listed
returns-clause-listed c =
    c.list_new.ensures.tag (length c.args.path.now.store.tags.items) (omega (arith, c.choose_clones.ensures.tag, c.requires.listed)) c.requires.own

pub returns-in_err-clones-clause-grows : goal.returns-in_err-clones-clause-grows
returns-in_err-clones-clause-grows c =
    let s = c.args.path.now.store in
    grows-on s s c.choose_clones.new.path.store (grows_refl s) c.choose_clones.ensures.store

pub returns-in_err-renew_over-clause-grows : goal.returns-in_err-renew_over-clause-grows
returns-in_err-renew_over-clause-grows c =
    subst (λ (s : Store). Grows s c.renew_over.new.self.store) c.choose_clones.ensures.store c.renew_over.ensures.grows

pub returns-in_err-list_new-clause-grows : goal.returns-in_err-list_new-clause-grows
returns-in_err-list_new-clause-grows c =
    subst (λ (s : Store). Grows s c.renew_over.new.self.store) c.choose_clones.ensures.store c.renew_over.ensures.grows

pub returns-clause-grows : goal.returns-clause-grows
returns-clause-grows c =
    subst (λ (s : Store). Grows s c.renew_over.new.self.store) c.choose_clones.ensures.store c.renew_over.ensures.grows

pub returns-in_err-renew_over-clause-tallied : goal.returns-in_err-renew_over-clause-tallied
returns-in_err-renew_over-clause-tallied c =
    let q = c.choose_clones.new.path.store in
    let many = ap (λ (s : Store). length s.tags.items) c.choose_clones.ensures.store in
    tallied-grown q c.renew_over.new.self.store c.renew_over.ensures.grows c.choose_clones.new.active (omega (arith, many, c.choose_clones.ensures.tag, c.requires.listed)) c.choose_clones.ensures.tallied

pub returns-in_err-list_new-clause-tallied : goal.returns-in_err-list_new-clause-tallied
returns-in_err-list_new-clause-tallied c = c.list_new.ensures.tallied

pub returns-clause-tallied : goal.returns-clause-tallied
returns-clause-tallied c = c.list_new.ensures.tallied

pub returns-in_err-renew_over-clause-more : goal.returns-in_err-renew_over-clause-more
returns-in_err-renew_over-clause-more c =
    omega (arith, c.choose_clones.ensures.more, c.renew_over.ensures.more)

pub returns-in_err-list_new-clause-more : goal.returns-in_err-list_new-clause-more
returns-in_err-list_new-clause-more c =
    omega (arith, c.choose_clones.ensures.more, c.renew_over.ensures.more)

pub returns-clause-more : goal.returns-clause-more
returns-clause-more c =
    omega (arith, c.choose_clones.ensures.more, c.renew_over.ensures.more)

pub returns-in_err-renew_over-clause-numbered : goal.returns-in_err-renew_over-clause-numbered
returns-in_err-renew_over-clause-numbered c =
    omega (arith, c.choose_clones.ensures.numbered, c.renew_over.ensures.more)

pub returns-in_err-list_new-clause-numbered : goal.returns-in_err-list_new-clause-numbered
returns-in_err-list_new-clause-numbered c =
    omega (arith, c.list_new.ensures.number, c.in_ok-renew_over.ensures.next)

pub returns-clause-numbered : goal.returns-clause-numbered
returns-clause-numbered c =
    omega (arith, c.list_new.ensures.number, c.in_ok-renew_over.ensures.next)
