-- Rounds of the adoption agency algorithm, as they change what a builder stands for.
use Rattle.std.proofs.Common.{Bool, Err, IfOk, List, Ok, Option, Result, Some, ap, arith, cond, length, not, refl, suc, ◌&&◌, ◌+◌, ◌-◌, ◌<◌, ◌≡◌, ◌≤◌, ◌∙◌, ℕ}
use Rattle.tl_dom_spec.specs.Adoption.{adoption_agency, adoption_round, furthest_block, with_block, with_formatting}
use Rattle.tl_dom_spec.specs.Builder as dom
use Rattle.tl_dom_spec.specs.Formatting.{Listed, is_listed, unlisted}
use Rattle.tl_dom_spec.specs.Path.{Path, elements, has_number, has_tag, is_open_number, within}
use Rattle.tl_dom_spec.specs.Tags.{Tag, is_named, is_scope}
use Rattle.std.specs.Option.{option_map}
use Rattle.tl_tree.proofs.Built.{context-grown, known-more}
use Rattle.tl_tree.proofs.Listed.{begins-longer}
use Rattle.tl_tree.specs.Inner.Active.{active_of}
use Rattle.tl_tree.specs.Inner.Adopted.{IsAdopted, adopted_entries, adopted_path, clones_in, frame_at, outer_in}
use Rattle.tl_tree.specs.Inner.Builders.{builder_of}
use Rattle.tl_tree.specs.Inner.Frames.{path_of}
use Rattle.tl_tree.specs.Inner.Known.{AreKnown}
use Rattle.tl_tree.specs.Inner.Rounds.{rounds}
use Rattle.tl_tree.specs.Inner.Store.{Grows, sizes_of, tag_at}
use Rattle.tl_tree.specs.Inner.Tallied.{IsTallied}
use Rattle.tl_tree.specs.declared.active.ActiveList.{ActiveList}
use Rattle.tl_tree.specs.declared.builder.Builder.{Builder}
use Rattle.tl_tree.specs.declared.path.FramePath.{FramePath}

-- what a builder refers to, after a round
pub known-adopted : (b : Builder) (q : FramePath) (list : ActiveList) → Grows b.path.store q.store → b.path.next ≤ q.next → list.greatest_number < q.next → list.greatest_tag < length b.path.store.tags.items → IsTallied q.store list → AreKnown (sizes_of q.store) q.next list.greatest_number list.greatest_tag b.context b.tag b.text b.doctype q.store list
known-adopted b q list g least number tag tallied =
    let known = known-more b q g least in
    let more = begins-longer b.path.store.tags.items q.store.tags.items g.tags in
    record {
      numbered = number;
      listed = omega arith;
      own = known.own;
      around = known.around;
      said = known.said;
      typed = known.typed;
      tallied = tallied;
    }

-- all but what a round changes
with_round : dom.Builder → Path → List dom.Entry → ℕ → Option Tag → ℕ → dom.Builder
with_round d path active next context added =
    record d { path = path; active = active; next = next; context = context; added = added }

same-round : (d : dom.Builder) (p p' : Path) (a a' : List dom.Entry) (n n' : ℕ) (c c' : Option Tag) (m m' : ℕ) → p ≡ p' → a ≡ a' → n ≡ n' → c ≡ c' → m ≡ m' → with_round d p a n c m ≡ with_round d p' a' n' c' m'
same-round d p p' a a' n n' c c' m m' is-p is-a is-n is-c is-m =
    ap (λ own. with_round d own a n c m) is-p
    ∙ (ap (λ own. with_round d p' own n c m) is-a
    ∙ (ap (λ own. with_round d p' a' own c m) is-n
    ∙ (ap (λ own. with_round d p' a' n' own m) is-c ∙ ap (with_round d p' a' n' c') is-m)))

pub block-adopted : (b : Builder) (q : FramePath) (list : ActiveList) (known : AreKnown (sizes_of q.store) q.next list.greatest_number list.greatest_tag b.context b.tag b.text b.doctype q.store list) (own : Listed) (n made : ℕ) → Grows b.path.store q.store → IsAdopted b.is_fostering own (frame_at b.path n) (clones_in own (frame_at b.path n) (path_of b.path) (active_of b.path.store b.active) b.path.next) b.path q list made → dom.Again (record (builder_of (record b { path = q; active = list; known = known })) { added = b.added + suc made }) ≡ with_block (builder_of b) own (Some (frame_at b.path n))
unfolding builder_of with_round
block-adopted b q list known own n made g is =
    let p = b.path in
    let block = frame_at p n in
    let clones = clones_in own block (path_of p) (active_of p.store b.active) p.next in
    let count = is.made in
    ap dom.Again
    (same-round (builder_of b) (path_of q) (adopted_path b.is_fostering own block clones (outer_in own block (path_of p)) (path_of p))
    (active_of q.store list) (adopted_entries own clones) q.next (suc clones.next)
    (option_map (tag_at q.store) b.context) (option_map (tag_at p.store) b.context) (b.added + suc made) (b.added + (suc clones.next - p.next))
    is.path is.active is.next (context-grown p.store q.store g b.context b.known.around) (omega arith))

pub blocks-adopted : {E : Type 0} (r : Result ℕ E) (b : Builder) (q : FramePath) (list : ActiveList) (known : AreKnown (sizes_of q.store) q.next list.greatest_number list.greatest_tag b.context b.tag b.text b.doctype q.store list) (own : Listed) (n : ℕ) → Grows b.path.store q.store → IfOk r (λ made. IsAdopted b.is_fostering own (frame_at b.path n) (clones_in own (frame_at b.path n) (path_of b.path) (active_of b.path.store b.active) b.path.next) b.path q list made) → IfOk r (λ made. dom.Again (record (builder_of (record b { path = q; active = list; known = known })) { added = (builder_of (record b { path = q; active = list; known = known })).added + suc made }) ≡ with_block (builder_of b) own (Some (frame_at b.path n)))
unfolding builder_of
blocks-adopted (Ok made) b q list known own n g is = block-adopted b q list known own n made g is
blocks-adopted (Err e) b q list known own n g is = is

-- The outer loop

pub round-done : (n : ℕ) (name : List ℕ) (b d : dom.Builder) → dom.Done d ≡ adoption_round name b → d ≡ rounds (suc n) name b
unfolding rounds
round-done n name b d e = done n ∙ ap (dom.repeated n (adoption_round name)) e
  where
    done : (n : ℕ) → d ≡ dom.repeated n (adoption_round name) (dom.Done d)
    done n = refl

pub round-again : (n : ℕ) (name : List ℕ) (b d : dom.Builder) → dom.Again d ≡ adoption_round name b → rounds n name d ≡ rounds (suc n) name b
unfolding rounds
round-again n name b d e = ap (dom.repeated n (adoption_round name)) e

pub rounds-none : (name : List ℕ) (b : dom.Builder) → b ≡ rounds 0 name b
unfolding rounds
rounds-none name b = refl

-- a round with a formatting element, by two tests of it
pub formatting-by : (name : List ℕ) (b : dom.Builder) (own : Listed) (opened scoped : Bool) → is_open_number own.number b.path ≡ opened → within (has_number own.number) (has_tag is_scope) (elements b.path) ≡ scoped → with_formatting name b (Some own) ≡ cond (not opened) (dom.Done (record b { active = unlisted own.number b.active })) (cond (not scoped) (dom.Done b) (with_block b own (furthest_block own.number b)))
formatting-by name b own opened scoped p q =
    let gone = dom.Done (record b { active = unlisted own.number b.active }) in
    let next = with_block b own (furthest_block own.number b) in
    ap (λ (x : Bool). cond (not x) gone (cond (not (within (has_number own.number) (has_tag is_scope) (elements b.path))) (dom.Done b) next)) p
    ∙ ap (λ (x : Bool). cond (not opened) gone (cond (not x) (dom.Done b) next)) q

pub agency-by : (name : List ℕ) (b : dom.Builder) (alone : Bool) → (is_named name (dom.current_node b).tag && not (is_listed (dom.current_node b).number b.active)) ≡ alone → adoption_agency name b ≡ cond alone (dom.pop_current_node b) (rounds 8 name b)
unfolding rounds
agency-by name b alone e =
    ap (λ (x : Bool). cond x (dom.pop_current_node b) (dom.repeated 8 (adoption_round name) (dom.Again b))) e
