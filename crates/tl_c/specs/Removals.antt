-- What goes of a page by a policy, in bytes for C.
use Rattle.std.specs.Prelude.{Err, List, Ok, Option, None, Result, Some, [], length, ℕ, ◌++◌, ◌≡◌, ◌≢◌}
use Rattle.tl_dom_spec.specs.HtmlTree.{html_fragment}
use Rattle.tl_page.specs.Outcome.{Fails, Outcome, not_understood, refused, success}
use Rattle.tl_page.specs.declared.failure.Failure.{Failure}
use Rattle.tl_tree.specs.Rows.{Row, rows_of}
use Rattle.tl_tree.specs.declared.source.Source.{Source}
use Rattle.tl_tree_safe.specs.InDiv.{div}
use Rattle.tl_tree_safe.specs.Lists.{ListedWords}
use Rattle.tl_tree_safe.specs.Removed.{Gone, removed}
use Rattle.tl_tree_safe.specs.RemovalForms.{Form, removals_written}
use Rattle.tl_tree_safe.specs.RemovedLines.{AreSources}
use Rattle.tl_tree_safe.specs.declared.removal.Cause.{Cause}
use Rattle.tl_tree_safe.specs.declared.removal.Cause.TheVariants.{ForeignTag, MisplacedTag, OpaqueTag, UnlistedKey, UnlistedTag, UnlistedValue}
use Rattle.tl_c.specs.Nodes.{number_bytes}
use Rattle.tl_c.specs.Puts.{Puts}

-- the number of why in the header
abbrev pub number_of_cause : Cause → ℕ
number_of_cause UnlistedTag = 1
number_of_cause OpaqueTag = 2
number_of_cause ForeignTag = 3
number_of_cause MisplacedTag = 4
number_of_cause UnlistedKey = 5
number_of_cause UnlistedValue = 6

-- nothing where the element itself goes; no key is empty
abbrev pub key_said : Option (List ℕ) → List ℕ
key_said None = []
key_said (Some key) = key

-- where the start tag begins and ends, the number of why, and how many bytes the name and the key
-- have
abbrev pub head_bytes : Source → Cause → List ℕ → List ℕ → List ℕ
head_bytes source cause name key =
    number_bytes source.start ++ (number_bytes source.end
    ++ (number_bytes (number_of_cause cause) ++ (number_bytes (length name)
    ++ number_bytes (length key))))

-- the same, and the name and the key
abbrev pub tag_bytes : Source → Cause → List ℕ → List ℕ → List ℕ
tag_bytes source cause name key = head_bytes source cause name key ++ (name ++ key)

abbrev pub bytes_of : Form
bytes_of source name gone = tag_bytes source gone.cause name (key_said gone.key)

abbrev pub removals_in_bytes : (ℕ → Option Source) → List Row → List Gone → List ℕ
removals_in_bytes = removals_written bytes_of

-- bytes that tell what goes of a text by lists
pub record AreRemovals (p : ListedWords) (text bytes : List ℕ) : Type 0 where
  pub sources : ℕ → Option Source
  pub are_sources : AreSources text sources
  pub bytes_are : bytes ≡ removals_in_bytes sources (rows_of (html_fragment div text))
      (removed p (html_fragment div text))

-- by lists that are there
abbrev pub AreRemovalsBy : Outcome ListedWords → List ℕ → List ℕ → Type 0
AreRemovalsBy (success p) text bytes = AreRemovals p text bytes
AreRemovalsBy refused text bytes = ⊥
AreRemovalsBy not_understood text bytes = ⊥

-- there is a value
abbrev pub IsThere : {X : Type 0} → Outcome X → Type 0
IsThere (success value) = Unit {0}
IsThere refused = ⊥
IsThere not_understood = ⊥

-- bytes of which something holds are given where there is a value, or the failure is this outcome
abbrev pub GivesSome :
    {A X : Type 0} → (A → Type 0) → Outcome X → Result A Failure → Type 0
GivesSome Holds outcome (Ok value) = IsThere outcome × Holds value
GivesSome Holds outcome (Err failure) = Fails outcome failure

-- the same of what is put
abbrev pub IsSome : {X : Type 0} → (List ℕ → Type 0) → Outcome X → Outcome (List ℕ) → Type 0
IsSome Holds outcome (success bytes) = IsThere outcome × Holds bytes
IsSome Holds outcome refused = outcome ≡ refused
IsSome Holds outcome not_understood = outcome ≡ not_understood

pub record PutsSome {X : Type 0} (Holds : List ℕ → Type 0) (outcome : Outcome X)
    (old new : List ℕ) (needed status : ℕ) : Type 0 where
  pub bytes : Outcome (List ℕ)
  pub puts : Puts bytes old new needed status
  pub are : status ≢ 3 → IsSome Holds outcome bytes
