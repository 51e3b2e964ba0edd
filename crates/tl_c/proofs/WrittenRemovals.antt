-- What goes of a page, and how it is put.
use Rattle.std.proofs.Common.{Err, List, Ok, Result, ap, length, refl, ℕ, ◌∙◌, ◌≡◌, ◌≢◌, ◌↔◌}
use Rattle.tl_dom_spec.specs.HtmlTree.{context_of, html_fragment, standard}
use Rattle.tl_page.specs.Outcome.{Gives, Outcome, not_understood, refused, success}
use Rattle.tl_page.specs.declared.failure.Failure.{Failure}
use Rattle.tl_page.specs.declared.failure.Failure.TheVariants.{Fault, NotUnderstood, OutOfMemory, Refused}
use Rattle.tl_tree.specs.Rows.{Row, rows_of}
use Rattle.tl_tree.specs.Sources.{AreSourced, fragment_begin, source_at}
use Rattle.tl_tree.specs.TreeView.{rows_in}
use Rattle.tl_tree.specs.declared.tree.Tree.{Tree}
use Rattle.tl_tree_safe.proofs.RemovedPlaces.{are_sources}
use Rattle.tl_tree_safe.specs.InDiv.{div}
use Rattle.tl_tree_safe.specs.Lists.{ListedWords}
use Rattle.tl_tree_safe.specs.Removed.{removed}
use Rattle.tl_c.specs.Puts.{Puts}
use Rattle.tl_c.specs.Removals.{AreRemovals, GivesSome, IsSome, PutsSome, removals_in_bytes}

-- those of the tree of a text are those of the text
pub of_tree : (p : ListedWords) (text : List ℕ) (tree : Tree) → rows_in tree ≡ rows_of (html_fragment div text) → AreSourced text (fragment_begin standard (context_of div)) tree
    → (bytes : List ℕ) → bytes ≡ removals_in_bytes (source_at tree) (rows_in tree) (removed p (html_fragment div text)) → AreRemovals p text bytes
of_tree p text tree rows sourced bytes is = record {
  sources = source_at tree;
  are_sources = are_sources text tree rows sourced;
  bytes_are = is ∙ ap (λ (R : List Row). removals_in_bytes (source_at tree) R (removed p (html_fragment div text))) rows;
}

module _ {A X : Type 0} (view : A → List ℕ) (Holds : List ℕ → Type 0) (outcome : Outcome X) where
  -- what was given, as an outcome
  abbrev bytes_in : Result A Failure → Outcome (List ℕ)
  bytes_in (Ok value) = success (view value)
  bytes_in (Err NotUnderstood) = not_understood
  bytes_in (Err _) = refused

  gives : (given : Result A Failure) → GivesSome (λ value. Holds (view value)) outcome given → Gives view (bytes_in given) given
  gives (Ok value) h = refl
  gives (Err Refused) h = refl
  gives (Err NotUnderstood) h = refl
  gives (Err OutOfMemory) h = tt
  gives (Err Fault) h = absurd h

  some : (given : Result A Failure) → GivesSome (λ value. Holds (view value)) outcome given → (given ≡ Err OutOfMemory → ⊥) → IsSome Holds outcome (bytes_in given)
  some (Ok value) h other = h
  some (Err Refused) h other = h
  some (Err NotUnderstood) h other = h
  some (Err OutOfMemory) h other = absurd (other refl)
  some (Err Fault) h other = absurd h

  -- so it is put
  pub put_some : (given : Result A Failure) (old new : List ℕ) (needed status : ℕ) → GivesSome (λ value. Holds (view value)) outcome given
      → ((bytes : Outcome (List ℕ)) → Gives view bytes given → Puts bytes old new needed status) → ((status ≡ 3) ↔ (given ≡ Err OutOfMemory))
      → PutsSome Holds outcome old new needed status
  put_some given old new needed status h put memory = record {
    bytes = bytes_in given;
    puts = put (bytes_in given) (gives given h);
    are = λ other. some given h (λ is. other (memory.1 is));
  }
