-- What a document and a compiled selector of C own.
use Rattle.std.specs.Prelude.{◌≡◌, Option, None, Some}
use Rattle.std.specs.Coded.{Coded}
use base.Fml.{Fml, ftrue, fex}
use denote.RawPtr.{Ptr, null_ptr}
use Rattle.std.specs.declared.alloc.Global.{Global}
use Rattle.std.specs.contracts.impls.GlobalAllocator.TheImpl.{ghosts}
use Rattle.std.specs.Box.Ownership.{box_owns}
use Rattle.tl_c.specs.declared.parsed_page.ParsedPage.{ParsedPage}
use Rattle.tl_c.specs.contracts.parsed_page.ParsedPage.{the_row}
use Rattle.tl_c.specs.declared.parsed_selector.ParsedSelector.{ParsedSelector}
use Rattle.tl_c.specs.contracts.parsed_selector.ParsedSelector as parsed_selector

abbrev pub parsed_code : Coded ParsedPage
parsed_code = the_row.coded

-- a page that was read, on the heap at p, and the right to give its memory back
abbrev pub boxed : Global → Ptr → ParsedPage → Fml
boxed a = box_owns (ghosts.dealloc_token a) the_row

-- such a page, or nothing at null
abbrev pub owned_at : Global → Ptr → Option ParsedPage → Fml
owned_at a p None = fex (p ≡ null_ptr) (λ _. ftrue)
owned_at a p (Some x) = boxed a p x

abbrev pub selector_code : Coded ParsedSelector
selector_code = parsed_selector.the_row.coded

-- a selector that was read, in the same way
abbrev pub boxed_selector : Global → Ptr → ParsedSelector → Fml
boxed_selector a = box_owns (ghosts.dealloc_token a) parsed_selector.the_row

abbrev pub selector_owned_at : Global → Ptr → Option ParsedSelector → Fml
selector_owned_at a p None = fex (p ≡ null_ptr) (λ _. ftrue)
selector_owned_at a p (Some x) = boxed_selector a p x
