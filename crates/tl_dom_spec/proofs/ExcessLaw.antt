-- How many elements are too many never gets less, in any builder.
use Rattle.std.proofs.Common.{List, None, Option, Some, [], arith, inl, le_refl, map, subst, sym, ℕ, ◌∷◌, ◌≤◌}
use Rattle.std.specs.Prelude.{⊤}
use Rattle.tl_html_spec.specs.Driven.{DrivenState, Emission, driven, driven_end, driven_step, state_after, taken}
use Rattle.tl_dom_spec.specs.Tags.{Tag}
use Rattle.tl_dom_spec.specs.Groups.{Group}
use Rattle.tl_dom_spec.specs.Path.{Frame, Nodes, Path, and_comment, and_doctype, and_element, and_text, no_nodes}
use Rattle.tl_dom_spec.specs.Builder.{Builder, Entry, Token, a_character, a_comment, a_doctype, a_start, an_end, end_of_file, formatting, marker}
use Rattle.tl_dom_spec.specs.Dispatcher.{token_done, tokens_done}
use Rattle.tl_dom_spec.specs.Driver.{builder, emitted_token, read_from}
use Rattle.tl_dom_spec.proofs.Allowed.{Allowed, Each, Good, IfSome}
use Rattle.tl_dom_spec.proofs.Paths.{Frames, Tagged}
use Rattle.tl_dom_spec.proofs.Builders.{Entries}
use Rattle.tl_dom_spec.proofs.Kept.{Holds}
use Rattle.tl_dom_spec.proofs.HeadRules.{Allows, Starts}
use Rattle.tl_dom_spec.proofs.DispatcherRules.{tokens-Holds}
use Rattle.tl_dom_spec.proofs.TextLaw.{anything}
use Rattle.tl_dom_spec.proofs.TreesFollow.{taken_tokens}
use Rattle.tl_dom_spec.specs.Lawful.{all_numbered}

no_less : (n m k : ℕ) → n ≤ m → m ≤ k → n ≤ k
no_less n m k h l = omega (arith, h, l)

-- anything at all, of which as many are too many, or more
abbrev at_least : ℕ → Allowed
at_least n = record anything { Whole = ⊥; Exceeds = λ m. n ≤ m; grows = λ m k l h. no_less n m k h l }

least_start : (n : ℕ) (g : Group) (t : Tag) → Starts (at_least n) g t
least_start n g t = record {
  opens = λ _. tt;
  alone = tt;
  image = λ _. tt;
  math = λ _. tt;
  svg = λ _. tt;
  foreign = λ _ _ _. tt;
  more = λ _. tt;
  inside = λ _. tt;
  scripted = λ _. tt;
  after = tt;
  listed = λ y _. absurd y;
}

least_token : (n : ℕ) (token : Token) → Allows (at_least n) token
least_token n (a_character c) = tt
least_token n (a_start g t closes) = least_start n g t
least_token n (an_end g name) = tt
least_token n (a_comment bytes) = tt
least_token n (a_doctype own) = tt
least_token n end_of_file = tt

least_tokens : (n : ℕ) (tokens : List Token) → Each (Allows (at_least n)) tokens
least_tokens n [] = tt
least_tokens n (token ∷ tokens) = (least_token n token, least_tokens n tokens)

-- it holds of any builder

any_bytes : (bytes : List ℕ) → Each (λ _. ⊤) bytes
any_bytes [] = tt
any_bytes (b ∷ bytes) = (tt, any_bytes bytes)

any_nodes : (n : ℕ) (nodes : Nodes) → Good (at_least n) nodes
any_nodes n no_nodes = tt
any_nodes n (and_text nodes bytes) = ((((λ w. absurd w), any_bytes bytes.said), tt), (λ w. absurd w), any_nodes n nodes)
any_nodes n (and_comment nodes bytes) = (tt, any_nodes n nodes)
any_nodes n (and_doctype nodes own) = (tt, any_nodes n nodes)
any_nodes n (and_element nodes tag children) = (inl (tt, any_nodes n children), any_nodes n nodes)

any_tag : (n : ℕ) (f : Frame) (path : Path) → Tagged (at_least n) f path
any_tag n f [] = ((λ _. tt), inl tt)
any_tag n f (g ∷ path) = tt

any_frames : (n : ℕ) (path : Path) → Frames (at_least n) path
any_frames n [] = tt
any_frames n (f ∷ path) = ((any_nodes n f.children, any_nodes n f.waiting), any_tag n f path, any_frames n path)

any_entries : (n : ℕ) (entries : List Entry) → Entries (at_least n) entries
any_entries n [] = tt
any_entries n (marker ∷ entries) = (tt, any_entries n entries)
any_entries n (formatting k tag ∷ entries) = (tt, any_entries n entries)

any_context : (context : Option Tag) → IfSome (λ _. ⊤) context
any_context None = tt
any_context (Some tag) = tt

any_builder : (b : Builder) → Holds (at_least b.excess) b
any_builder b = (
  (
    any_frames b.excess b.path,
    any_entries b.excess b.active,
    any_bytes b.pending,
    record { state = tt; around = any_context b.context; scripts = tt; excess = le_refl b.excess; gaps = tt },
  ),
  λ y. absurd y,
)

-- so no token makes it less

pub tokens_excess : (b : Builder) (tokens : List Token) → b.excess ≤ (tokens_done b tokens).excess
tokens_excess b tokens = (tokens-Holds (at_least b.excess) b tokens (least_tokens b.excess (all_numbered b.marks tokens)) (λ _ _. tt) (any_builder b)).0.3.excess

pub token_excess : (b : Builder) (token : Token) → b.excess ≤ (token_done b token).excess
token_excess b token = tokens_excess b (token ∷ [])

taken_excess : (b : Builder) (emissions : List Emission) → b.excess ≤ (taken builder b emissions).excess
taken_excess b emissions =
    subst (λ c. b.excess ≤ c.excess) (sym (taken_tokens b emissions)) (tokens_excess b (map emitted_token emissions))

driven_excess : (b : Builder) (state : DrivenState) (bytes : List ℕ) → b.excess ≤ (driven builder b state bytes).excess
driven_excess b state [] = taken_excess b (driven_end state)
driven_excess b state (c ∷ bytes) =
    let x = driven_step (builder.is_foreign b) state c in
    let after : Builder = taken builder b x.emits in
    no_less b.excess after.excess (driven builder after (state_after builder after x) bytes).excess
    (taken_excess b x.emits) (driven_excess after (state_after builder after x) bytes)

pub read_excess : (b : Builder) (state : DrivenState) (bytes : List ℕ) → b.excess ≤ (read_from b state bytes).excess
read_excess b state bytes =
    let read : Builder = driven builder b state bytes in
    no_less b.excess read.excess (token_done read end_of_file).excess (driven_excess b state bytes) (token_excess read end_of_file)
