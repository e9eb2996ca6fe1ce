-- The refusals of the layers below, as those of a text.
use Rattle.cedar_schema_grammar.specs.declared.fault.GrammarFault.{GrammarFault}
use Rattle.cedar_schema_grammar.specs.declared.fault.GrammarFault.TheVariants as grammar
use Rattle.cedar_schema_text.specs.declared.fault.MeaningFault.{MeaningFault}
use Rattle.cedar_schema_text.specs.declared.fault.MeaningFault.TheVariants as meaning
use Rattle.cedar_schema_text.specs.declared.text_reading.TextFault.{TextFault}
use Rattle.cedar_schema_text.specs.declared.text_reading.TextFault.TheVariants as fault
use Rattle.cedar_schema_tokens.specs.declared.fault.TokenFault.{TokenFault}
use Rattle.cedar_schema_tokens.specs.declared.fault.TokenFault.TheVariants as token

-- of a text that has no tokens
abbrev pub of_tokens : TokenFault → TextFault
of_tokens (token.BadCharacter loc) = fault.BadCharacter loc
of_tokens (token.OpenQuote loc) = fault.OpenQuote loc
of_tokens (token.BadEscape loc) = fault.BadEscape loc
of_tokens token.TooLong = fault.TooLong
of_tokens token.Memory = fault.Memory

-- of a text whose tokens are no schema
abbrev pub of_grammar : GrammarFault → TextFault
of_grammar (grammar.Unexpected loc) = fault.Unexpected loc
of_grammar (grammar.TooDeep loc) = fault.TooDeep loc
of_grammar grammar.Memory = fault.Memory

-- of a text in whose members something is at fault
abbrev pub of_meaning : MeaningFault → TextFault
of_meaning (meaning.Twice it) = fault.Twice it
of_meaning (meaning.Missing which loc) = fault.Missing which loc
of_meaning (meaning.Reserved loc) = fault.Reserved loc
of_meaning meaning.Memory = fault.Memory
