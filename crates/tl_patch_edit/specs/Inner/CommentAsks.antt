-- What is asked for where comments go.
use Rattle.std.specs.List.{slice_get}
use Rattle.std.specs.Prelude.{List, Some, [], suc, ℕ, ⊤, ◌++◌, ◌∷◌, ◌≡◌, ◌≤◌}
use Rattle.tl_html_tokens.specs.declared.stage.TokenKind.TheVariants as kind
use Rattle.tl_html_tokens.specs.declared.token.Token.{Token}
use Rattle.tl_patch_edit.specs.Asks.{ask_view}
use Rattle.tl_patch_edit.specs.Comments.{gone_at}
use Rattle.tl_patch_edit.specs.declared.ask.PlacedAsk.{PlacedAsk}
use Rattle.tl_patch_edit.specs.declared.ask.Put.TheVariants as put
use Rattle.tl_patch_edit.specs.declared.ask.Start.{Start}
use Rattle.tl_patch_edit.specs.declared.comments.CommentError.{CommentError}
use Rattle.tl_patch_edit.specs.declared.comments.CommentError.TheVariants as error

-- the token of this number is a comment at this place
pub record IsCommentAt (tokens : List Token) (place number : ℕ) (token : Token) : Type 0 where
  pub is : slice_get tokens number ≡ Some token
  pub start : token.start ≡ place
  pub kind : token.kind ≡ kind.Comment

-- nothing in the place of a token, up to the next one
abbrev pub gone_ask : Start → ℕ → PlacedAsk
gone_ask start until = record {
  start = start;
  turn = record { depth = 0; rank = 0; at = 0 };
  ask = record { from = start.number; until = until; put = put.Nothing };
}

-- these take out the comments at these places, in order from a number on
abbrev pub AreCommentAsks : ℕ → List Token → List ℕ → List PlacedAsk → Type 0
AreCommentAsks from tokens [] [] = ⊤
AreCommentAsks from tokens (place ∷ places) (a ∷ asks) =
    (from ≤ a.start.number) × IsCommentAt tokens place a.start.number a.start.token
    × (ask_view a.ask ≡ gone_at a.start.number)
    × AreCommentAsks (suc a.start.number) tokens places asks
AreCommentAsks from tokens _ _ = ⊥

-- from this number on no token is a comment at a place
abbrev pub NoCommentFrom : ℕ → List Token → ℕ → Type 0
NoCommentFrom from tokens place = (n : ℕ) (t : Token) → from ≤ n → slice_get tokens n ≡ Some t →
    t.start ≡ place → t.kind ≡ kind.Comment → ⊥

-- the number behind that of the last of some comments, or one to begin with
abbrev pub past_asks : ℕ → List PlacedAsk → ℕ
past_asks from [] = from
past_asks from (a ∷ asks) = past_asks (suc a.start.number) asks

-- comments begin at the places before one of these, and behind the last of them none does there
pub record LacksCommentIn (tokens : List Token) (places : List ℕ) (place : ℕ) : Type 0 where
  pub front : List ℕ
  pub back : List ℕ
  pub is : places ≡ front ++ place ∷ back
  pub asks : List PlacedAsk
  pub before : AreCommentAsks 0 tokens front asks
  pub none : NoCommentFrom (past_asks 0 asks) tokens place

abbrev pub AreAsksRefused : List Token → List ℕ → CommentError → Type 0
AreAsksRefused tokens places (error.NoComment place) = LacksCommentIn tokens places place
AreAsksRefused tokens places error.ReadOtherwise = ⊥
AreAsksRefused tokens places error.OutOfMemory = ⊤
