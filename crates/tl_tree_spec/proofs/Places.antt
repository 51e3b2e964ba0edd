-- Trees that stay at a place of a page.
use Rattle.std.proofs.Common.{◌≡◌, Bool, true, false, List, [], ◌∷◌, ◌++◌, map, Option, Some, None, codes, refl, ap, ap₂, sym, ◌∙◌, append-nil, arith}
use Rattle.tl_spec.specs.Tree.Forest.{none}
use Rattle.tl_html_spec.specs.HtmlTokenizer.{HtmlToken}
use Rattle.tl_tree_spec.specs.HtmlForest.{HtmlForest, HtmlTag, html_tokens_of, normal_form}
use Rattle.tl_tree_spec.specs.Groups.{group}
use Rattle.tl_tree_spec.specs.Builder.{Builder, Mode, Nodes, Reading, elements, mode_by, mode_of, names, new_element, no_nodes}
use Rattle.tl_tree_spec.specs.HtmlTreeBuilder.{before, run, step}
use Rattle.tl_tree_spec.specs.Stays.{stay}
use Rattle.tl_tree_spec.specs.Places.{Puts, placed}
use Rattle.tl_tree_spec.proofs.Active.{Ordered, Sound, over}
use Rattle.tl_tree_spec.proofs.Texts.{grown, trees_grown}
use Rattle.tl_tree_spec.proofs.Trees.{Ran, entered, ran, stay-IsPlain}

-- what holds of a builder at a place
record Ready (reading : Reading) (b : Builder) : Type 0 where
  ordered : Ordered b.next (elements b.stack)
  sound : Sound b.active (elements b.stack)
  mode : b.mode ≡ mode_of (names b.stack)
  quiet : b.skips ≡ false
  empty : b.stack.current.children ≡ no_nodes
  counted : b.reading ≡ reading

ready : (reading : Reading) (tags : List HtmlTag) → Ready reading (placed reading tags)
ready reading [] = record { ordered = (omega arith, tt); sound = over; mode = refl; quiet = refl; empty = refl; counted = refl }
ready reading (own ∷ tags) =
    let around = ready reading tags in
    let b : Builder = placed reading tags in
    record {
      ordered = (omega arith, around.ordered);
      sound = entered (group own.name) (new_element b own) b.active (elements b.stack) refl around.sound;
      mode = ap (mode_by (group own.name)) around.mode;
      quiet = around.quiet;
      empty = refl;
      counted = around.counted;
    }

-- the theorem, at a place
pub stays_placed : (reading : Reading) (tags : List HtmlTag) (f : HtmlForest) → stay (names (placed reading tags).stack) f ≡ true → Puts (placed reading tags) (html_tokens_of f) (normal_form f)
stays_placed reading tags f h =
    let b : Builder = placed reading tags in
    let at = ready reading tags in
    let r : Ran reading b.stack b.active b.next f = ran reading f b.stack b.active b.next at.ordered at.sound h in
    record {
      after = record {
        stack = record b.stack { current = record b.stack.current { children = grown b.stack.current.children f } };
        active = r.left;
        next = r.next;
        skips = false;
        mode = mode_of (names b.stack);
        reading = reading;
      };
      outcome =
          ap₂ (λ (s : Bool) (m : Mode). run (Some (record b { skips = s; mode = m })) (html_tokens_of f)) at.quiet at.mode
          ∙ ap (λ (c : Reading). run (Some (record b { skips = false; mode = mode_of (names b.stack); reading = c })) (html_tokens_of f)) at.counted
          ∙ ap (run (Some (record b { skips = false; mode = mode_of (names b.stack); reading = reading }))) (sym (append-nil (html_tokens_of f)))
          ∙ r.runs [];
      here = refl;
      around = refl;
      added = ap (λ (x : Nodes). before (grown x f) none) at.empty
          ∙ trees_grown f (stay-IsPlain f (names b.stack) h);
    }

-- the names that are open there
pub names_placed : (reading : Reading) (tags : List HtmlTag) → names (placed reading tags).stack ≡ map (λ (own : HtmlTag). own.name) tags ++ (codes "html" ∷ [])
names_placed reading [] = refl
names_placed reading (own ∷ tags) = ap (λ ns. own.name ∷ ns) (names_placed reading tags)

-- tokens are taken one after the other
pub run_append : (b : Option Builder) (first more : List HtmlToken) → run b (first ++ more) ≡ run (run b first) more
run_append None first more = refl
run_append (Some b) [] more = refl
run_append (Some b) (token ∷ first) more = run_append (step b token) first more
