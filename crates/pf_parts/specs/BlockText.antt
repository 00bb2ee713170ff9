-- How the kind of a block is printed (pf.conf(5), "block").
use Rattle.std.specs.Prelude.{ℕ, ◌==◌, List, ◌++◌, if◌then◌else◌, codes, decimal}
use Rattle.pf_parts.specs.declared.block.BlockKind.{BlockKind}
use Rattle.pf_parts.specs.declared.block.BlockKind.TheVariants.{Drop, Return, Rst, Icmp}

-- what the sender of a blocked packet is told; a ttl of 0 isn't printed
unfoldable pub block_text : BlockKind → List ℕ
block_text Drop = codes "drop"
block_text Return = codes "return"
block_text (Rst ttl) = if ttl == 0 then codes "return-rst" else codes "return-rst (ttl " ++ decimal ttl ++ codes ")"
block_text (Icmp code code6) = codes "return-icmp (" ++ decimal code ++ codes ", " ++ decimal code6 ++ codes ")"
