-- What ends a statement.
use Rattle.std.specs.Prelude.{Bool, true, false}
use Rattle.pf_lexer.specs.declared.statement.Close.{Close}
use Rattle.pf_lexer.specs.declared.statement.Close.TheVariants.{End, Line, Body, Long}

abbrev pub is_body : Close → Bool
is_body End = false
is_body Line = false
is_body Body = true
is_body Long = false

abbrev pub is_long : Close → Bool
is_long End = false
is_long Line = false
is_long Body = false
is_long Long = true

abbrev pub is_end : Close → Bool
is_end End = true
is_end Line = false
is_end Body = false
is_end Long = false
