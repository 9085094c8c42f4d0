-- A head holds the model, the slot and the key that it is made of.
use Prim.Native.Nat.{ℕ, ◌<◌}
use mathlib.Core.Path.{◌≡◌}
use native.Mathlib.Omega.{arith}
use Rattle.listing.specs.Records.{record_of}
use Rattle.listing.specs.Rows.{key_id, key_number, head_of, head_model, head_slot, head_record}

module _ (model slot key : ℕ) where
  pub head-model : model < 0x1_0000_0000 → slot < 256 → head_model (head_of model slot key) ≡ model
  unfolding head_model head_of
  head-model hm hs = omega arith

  pub head-slot : slot < 256 → head_slot (head_of model slot key) ≡ slot
  unfolding head_slot head_of
  head-slot hs = omega arith

  pub head_id : key_id (head_of model slot key) ≡ key_id key
  unfolding key_id head_of
  head_id = omega arith

  pub head_number : key_number (head_of model slot key) ≡ key_number key
  unfolding key_number head_of
  head_number = omega arith

  -- So the record of a bit has them.
  pub head-record : model < 0x1_0000_0000 → slot < 256 → (attention bit : ℕ)
      → head_record attention (head_of model slot key) bit ≡ record_of model slot attention bit (key_id key) (key_number key)
  unfolding head_record
  head-record hm hs attention bit = rw (head-model hm hs, head-slot hs, head_id, head_number)
