use Rattle.std.specs.Prelude.{◌≡◌, ◌≢◌, ℕ, ◌<◌, List, length, None, Some}
use Rattle.nuc_hash.specs.Content.{digest_of}
use Rattle.nuc_hash.specs.declared.content.TheConstants.{BLOCK}
use Rattle.nuc_hash.specs.declared.digest.Digest.{Digest}
use Rattle.nuc_blocks.specs.Blocks.{Blocks, IsBlock, block_of, first_missing}
use Rattle.nuc_blocks.specs.declared.fault.StoreFault.{StoreFault}
use Rattle.nuc_blocks.specs.declared.fault.StoreFault.TheVariants as store
use Rattle.nuc_blocks.specs.declared.fault.AssembleFault.{AssembleFault}
use Rattle.nuc_blocks.specs.declared.fault.AssembleFault.TheVariants as assemble

-- why the bytes aren't stored under the digest, the first reason in the order of the cases. Memory lacks only for new bytes
abbrev pub IsRefused : Blocks → Digest → List ℕ → StoreFault → Type 0
IsRefused blocks digest bytes (store.Wrong actual) = (digest_of bytes ≡ actual) × (actual ≢ digest)
IsRefused blocks digest bytes (store.TooLong len) = (digest_of bytes ≡ digest) × (len ≡ length bytes) × (BLOCK < len)
IsRefused blocks digest bytes store.Memory = IsBlock digest bytes × (block_of blocks digest ≡ None)

-- why the blocks of the list aren't put together
abbrev pub IsNotAssembled : Blocks → List Digest → AssembleFault → Type 0
IsNotAssembled blocks list (assemble.NoBlock digest) = first_missing blocks list ≡ Some digest
IsNotAssembled blocks list assemble.Memory = first_missing blocks list ≡ None
