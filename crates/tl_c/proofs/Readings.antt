-- Pages that are read into a document.
use Rattle.std.proofs.Common.{◌≡◌, ◌∙◌, ℕ, List, Option, Some, ap, arith, inl, inr, length, refl, subst, sym, true, false}
use Rattle.std.specs.Prelude.{IsSomeAnd}
use Rattle.tl_dom_spec.specs.HtmlTree.{html_tree, is_in_proportion_by, standard}
use Rattle.tl_page.specs.Page.{IsPage}
use Rattle.tl_page.specs.declared.failure.Failure.{Failure}
use Rattle.tl_page.specs.declared.failure.Failure.TheVariants.{Refused, NotUnderstood, OutOfMemory, Fault}
use Rattle.tl_tree.specs.Asked.{node_at}
use Rattle.tl_tree.specs.Rows.{Row}
use Rattle.tl_tree.specs.Sources.{AreSourced, IsSourceOf, page_begin, source_at}
use Rattle.tl_tree.specs.TreeView.{rows_in}
use Rattle.tl_tree.specs.declared.source.Source.{Source}
use Rattle.tl_tree.specs.declared.tree.Tree.{Tree}
use Rattle.tl_c.specs.Readings.{IsReadable, IsUnread, Reads}
use Rattle.tl_tree.specs.Pages.{IsOfPage}
use Rattle.tl_c.specs.declared.parsed_page.ParsedPage.{ParsedPage}
use Rattle.tl_c.proofs.Room.{number_of}

-- a page out of proportion can't be read
pub out_of_proportion : (page : List ℕ) → is_in_proportion_by standard page ≡ false → IsReadable page → ⊥
out_of_proportion page out readable = let fits = readable.1 in absurd (cc)

-- a tree with a copy of its page is that of the page
pub owned : (page : List ℕ) (tree own : Tree) → IsOfPage page tree → rows_in own ≡ rows_in tree → own.is_quirks ≡ tree.is_quirks
    → ((row : ℕ) → source_at own row ≡ source_at tree row) → IsOfPage page own
owned page tree own is rows quirks sources = record {
  rows = rows ∙ is.rows;
  quirks = quirks ∙ is.quirks;
  sources = record {
    last = is.sources.last;
    read = is.sources.read;
    whole = is.sources.whole;
    each = λ row node there.
        subst (λ (source : Option Source). IsSourceOf (page_begin standard page).at (length page) is.sources.last.marks node source) (sym (sources row))
        (is.sources.each row node (ap (λ (R : List Row). node_at R row) (sym rows) ∙ there));
  };
}

-- a page that is not read leaves the document as it was
pub reads_nothing : (page : List ℕ) (held : Option ParsedPage) (failure : Failure) → IsUnread page failure → Reads page held held (number_of failure)
reads_nothing page held Refused unread = absurd unread
reads_nothing page held NotUnderstood unread = record {
  range = inr (inl refl);
  is_readable = λ e. absurd (omega (arith, e));
  is_read = λ e. absurd (omega (arith, e));
  is_not_understood = λ _. unread;
  untouched = λ _. refl;
}
reads_nothing page held OutOfMemory unread = record {
  range = inr (inr refl);
  is_readable = λ e. absurd (omega (arith, e));
  is_read = λ e. absurd (omega (arith, e));
  is_not_understood = λ e. absurd (omega (arith, e));
  untouched = λ _. refl;
}
reads_nothing page held Fault unread = absurd unread

-- one that is read stands in it
pub reads_some : (page : List ℕ) (old new : Option ParsedPage) (own : ParsedPage) → new ≡ Some own → IsReadable page → IsOfPage page own.tree → Reads page old new 0
reads_some page old new own is readable of_page = record {
  range = inl refl;
  is_readable = λ _. readable;
  is_read = λ _. subst (λ (held : Option ParsedPage). IsSomeAnd held (λ parsed. IsOfPage page parsed.tree)) (sym is) of_page;
  is_not_understood = λ e. absurd (omega (arith, e));
  untouched = λ above. absurd (omega (arith, above));
}
