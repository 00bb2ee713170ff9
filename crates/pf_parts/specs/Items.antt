-- What is printed between brackets, as the code has it.
use Rattle.std.specs.Prelude.{ℕ, Bool, true, List, [], ◌∷◌, ◌++◌, Option, Some, None, codes, decimal, if◌then◌else◌}
use Rattle.std.specs.Option.{option_map}
use Rattle.pf_parts.specs.declared.item.Item.{Item}
use Rattle.pf_parts.specs.declared.item.Item.TheVariants.{Word, Number, Named, PerSeconds, Table}
use Rattle.pf_parts.specs.NameText.{name_text}
use Rattle.pf_parts.specs.StateText.{rate_text, overload_text}

abbrev pub item_text : Item → List ℕ
item_text (Word word) = word.now
item_text (Number word number) = word.now ++ codes " " ++ decimal number
item_text (Named word name) = word.now ++ codes " " ++ name_text name
item_text (PerSeconds rate) = rate_text rate
item_text (Table overload) = overload_text overload

abbrev pub part_of : Option Item → Option (List ℕ)
part_of item = option_map item_text item

-- what is still to print of items in brackets, of which some are printed or none
abbrev pub rest_text : Bool → List (Option (List ℕ)) → List ℕ
rest_text some [] = if some then codes ")" else []
rest_text some (None ∷ parts) = rest_text some parts
rest_text some (Some part ∷ parts) = (if some then codes ", " else codes " (") ++ part ++ rest_text true parts
