-- How a proof tells two states of a lexer apart.
use Rattle.std.specs.Prelude.{◌≡◌, ℕ, zero, suc, List, [], refl, ◌⊎◌}
use Rattle.std.proofs.Common.{inl, inr}
use Rattle.std.specs.Coded.{Coded, code_by, coded×, coded⊎, coded_list, coded_ℕ}
use Rattle.pf_base.specs.declared.fault.Place.{Place}
use Rattle.pf_token.specs.declared.cell.Cell.{Cell}
use Rattle.pf_token.specs.Macros.{Table, table_code}
use Rattle.pf_lexer.specs.declared.fault.LexFault.{LexFault}
use Rattle.pf_lexer.specs.declared.fault.LexFault.TheVariants.{BadByte, Unterminated, MacroUndefined, MacroName, IncludeDepth, TooLarge, Syntax, CannotRead, NoMemory}
use Rattle.pf_lexer.specs.Stages.{Standing, Stage, going, failed, LexerState}

abbrev pub place_code : Coded Place
place_code = code_by (ℕ × ℕ) (coded× coded_ℕ coded_ℕ) (λ p. (p.file, p.line)) (λ p. record { file = p.0; line = p.1 }) (λ _. refl)

abbrev pub cell_code : Coded Cell
cell_code = code_by (ℕ × Place) (coded× coded_ℕ place_code) (λ c. (c.byte, c.place)) (λ p. record { byte = p.0; place = p.1 }) (λ _. refl)

abbrev pub standing_code : Coded Standing
standing_code =
    code_by (Table × (List Cell × List (List Cell))) (coded× table_code (coded× (coded_list cell_code) (coded_list (coded_list cell_code))))
    (λ s. (s.macros, (s.top, s.below))) (λ p. record { macros = p.0; top = p.1.0; below = p.1.1 }) (λ _. refl)

-- a fault as a number, a place and a text
abbrev pub fault_number : LexFault → ℕ
fault_number (BadByte place) = 0
fault_number (Unterminated place) = 1
fault_number (MacroUndefined place name) = 2
fault_number (MacroName place) = 3
fault_number (IncludeDepth place) = 4
fault_number (TooLarge place) = 5
fault_number (Syntax place) = 6
fault_number (CannotRead name) = 7
fault_number NoMemory = 8

abbrev pub no_place : Place
no_place = record { file = 0; line = 0 }

abbrev pub fault_place : LexFault → Place
fault_place (BadByte place) = place
fault_place (Unterminated place) = place
fault_place (MacroUndefined place name) = place
fault_place (MacroName place) = place
fault_place (IncludeDepth place) = place
fault_place (TooLarge place) = place
fault_place (Syntax place) = place
fault_place (CannotRead name) = no_place
fault_place NoMemory = no_place

abbrev pub fault_text : LexFault → List ℕ
fault_text (BadByte place) = []
fault_text (Unterminated place) = []
fault_text (MacroUndefined place name) = name
fault_text (MacroName place) = []
fault_text (IncludeDepth place) = []
fault_text (TooLarge place) = []
fault_text (Syntax place) = []
fault_text (CannotRead name) = name
fault_text NoMemory = []

abbrev pub fault_made : ℕ → Place → List ℕ → LexFault
fault_made zero place text = BadByte place
fault_made (suc zero) place text = Unterminated place
fault_made (suc (suc zero)) place text = MacroUndefined place text
fault_made (suc (suc (suc zero))) place text = MacroName place
fault_made (suc (suc (suc (suc zero)))) place text = IncludeDepth place
fault_made (suc (suc (suc (suc (suc zero))))) place text = TooLarge place
fault_made (suc (suc (suc (suc (suc (suc zero)))))) place text = Syntax place
fault_made (suc (suc (suc (suc (suc (suc (suc zero))))))) place text = CannotRead text
fault_made (suc (suc (suc (suc (suc (suc (suc (suc number)))))))) place text = NoMemory

pub made_again : (fault : LexFault) → fault_made (fault_number fault) (fault_place fault) (fault_text fault) ≡ fault
made_again (BadByte place) = refl
made_again (Unterminated place) = refl
made_again (MacroUndefined place name) = refl
made_again (MacroName place) = refl
made_again (IncludeDepth place) = refl
made_again (TooLarge place) = refl
made_again (Syntax place) = refl
made_again (CannotRead name) = refl
made_again NoMemory = refl

abbrev pub fault_code : Coded LexFault
fault_code =
    code_by (ℕ × (Place × List ℕ)) (coded× coded_ℕ (coded× place_code (coded_list coded_ℕ)))
    (λ f. (fault_number f, (fault_place f, fault_text f))) (λ p. fault_made p.0 p.1.0 p.1.1) made_again

abbrev pub stage_parts : Stage → Standing ⊎ LexFault
stage_parts (going unit) = inl unit
stage_parts (failed fault) = inr fault

abbrev pub stage_made : Standing ⊎ LexFault → Stage
stage_made (inl unit) = going unit
stage_made (inr fault) = failed fault

pub stage_again : (stage : Stage) → stage_made (stage_parts stage) ≡ stage
stage_again (going unit) = refl
stage_again (failed fault) = refl

abbrev pub stage_code : Coded Stage
stage_code = code_by (Standing ⊎ LexFault) (coded⊎ standing_code fault_code) stage_parts stage_made stage_again

abbrev pub lexer_code : Coded LexerState
lexer_code = code_by (Stage × ℕ) (coded× stage_code coded_ℕ) (λ s. (s.stage, s.known)) (λ p. record { stage = p.0; known = p.1 }) (λ _. refl)
