-- Errors of URLs, as answers have them.
use Rattle.tl_answers.specs.declared.error.AnswerError.{AnswerError}
use Rattle.tl_answers.specs.declared.error.AnswerError.TheVariants.{LongUrl, OutOfMemory}
use Rattle.url.specs.declared.error.ParseError.{ParseError}
use Rattle.url.specs.declared.error.ParseError.TheVariants as url

-- a link that is resolved ends in no other error: what is no URL is none
abbrev pub error_of_url : ParseError → AnswerError
error_of_url url.OutOfMemory = OutOfMemory
error_of_url _ = LongUrl
