-- A lent list in bytes: a count, and then records of k bytes, all numbers little-endian u32.
use Rattle.std.specs.Prelude.{ℕ, zero, suc, ◌≤◌, ◌<◌, ◌≡◌, cond, List, ◌++◌, leb, length, drop}
use Rattle.std.specs.Int.{w32, to_le_bytes}
use Rattle.definition.specs.Sizes.{surface_bytes, action_bytes, count_bytes, list_bytes}
use Rattle.definition.specs.Bytes.{u32_at}
use Rattle.definition.specs.Surfaces.{surface_at, range_at}
use Rattle.definition.specs.declared.Surface.{Surface}
use Rattle.definition.specs.declared.Range.{Range}
use Rattle.definition.specs.declared.Action.{Action}
use Rattle.definition.specs.declared.MemoryInitKind.{MemoryInitKind}
use Rattle.definition.specs.declared.MemoryInitKind.TheVariants.{ImplicitlyInitialized, NeedsInitializedMemory}
use Rattle.laws.specs.Plans.{action_of}
use Rattle.laws.specs.Records.{record_at, records}

-- ── records

-- The four bytes of a number.
abbrev pub bytes_of : ℕ → List ℕ
bytes_of n = to_le_bytes w32 n

-- A surface (texture, mip, layer, slice), and its bytes.
unfoldable pub surface_of : List ℕ → Surface
surface_of l = surface_at (u32_at l 0) (u32_at l 4) (u32_at l 8) (u32_at l 12)

abbrev pub bytes_of_surface : Surface → List ℕ
bytes_of_surface s = ((bytes_of s.texture ++ bytes_of s.mip) ++ bytes_of s.layer) ++ bytes_of s.slice

-- A kind and its number.
abbrev pub kind_of : ℕ → MemoryInitKind
kind_of zero = ImplicitlyInitialized
kind_of (suc n) = NeedsInitializedMemory

abbrev pub number_of : MemoryInitKind → ℕ
number_of ImplicitlyInitialized = 0
number_of NeedsInitializedMemory = 1

-- A number over 1 is no kind: the action is read as one of no layers, which is refused as 6.
abbrev pub layers_by : ℕ → ℕ → ℕ
layers_by kind layers = cond (leb kind 1) layers 0

-- An action (texture, mip, mips, layer, layers, kind, slice), and its bytes.
unfoldable pub action_of_bytes : List ℕ → Action
action_of_bytes l =
    action_of (range_at (u32_at l 0) (u32_at l 4) (u32_at l 8) (u32_at l 12) (layers_by (u32_at l 20) (u32_at l 16)) (u32_at l 24)) (kind_of (u32_at l 20))

abbrev pub bytes_of_action : Range → MemoryInitKind → List ℕ
bytes_of_action r k =
    (((((bytes_of r.texture ++ bytes_of r.mip) ++ bytes_of r.mips) ++ bytes_of r.layer) ++ bytes_of r.layers) ++ bytes_of (number_of k)) ++ bytes_of r.slice

-- ── lists

-- The count, and the records that it names.
abbrev pub count_in : List ℕ → ℕ
count_in b = u32_at b 0

abbrev pub list_in : {A : Type 0} → ℕ → (List ℕ → A) → List ℕ → List A
list_in k decode b = records k decode (count_in b) (drop count_bytes b)

abbrev pub surfaces_in : List ℕ → List Surface
surfaces_in b = list_in surface_bytes surface_of b

abbrev pub actions_in : List ℕ → List Action
actions_in b = list_in action_bytes action_of_bytes b

-- The first n records, whatever the count.
abbrev pub first_surfaces : ℕ → List ℕ → List Surface
first_surfaces n b = records surface_bytes surface_of n (drop count_bytes b)

abbrev pub first_actions : ℕ → List ℕ → List Action
first_actions n b = records action_bytes action_of_bytes n (drop count_bytes b)

-- The record at place i.
abbrev pub surface_in : ℕ → List ℕ → Surface
surface_in i b = record_at surface_bytes surface_of i (drop count_bytes b)

abbrev pub action_in : ℕ → List ℕ → Action
action_in i b = record_at action_bytes action_of_bytes i (drop count_bytes b)

-- ── what a call leaves

-- The count becomes n; what stands behind it stays.
pub record CountSet (n : ℕ) (b b' : List ℕ) : Type 0 where
  pub count : count_in b' ≡ n
  pub behind : drop count_bytes b' ≡ drop count_bytes b

-- The bytes past the records that a list then has stay.
abbrev pub RestStays : ℕ → List ℕ → List ℕ → Type 0
RestStays k b b' = drop (list_bytes k (count_in b')) b' ≡ drop (list_bytes k (count_in b')) b

-- The bytes b become b', which hold the list xs of records of k bytes; those past its records stay.
pub record Becomes {A : Type 0} (k : ℕ) (decode : List ℕ → A) (xs : List A) (b b' : List ℕ) : Type 0 where
  pub list : list_in k decode b' ≡ xs
  pub rest : RestStays k b b'

-- Lists of surfaces and of actions.
abbrev pub SurfacesBecome : List Surface → List ℕ → List ℕ → Type 0
SurfacesBecome = Becomes surface_bytes surface_of

abbrev pub ActionsBecome : List Action → List ℕ → List ℕ → Type 0
ActionsBecome = Becomes action_bytes action_of_bytes

-- The bytes have the records that their count names.
pub record Room (k n : ℕ) (b : List ℕ) : Type 0 where
  pub bytes : list_bytes k n ≤ length b
  pub small : n < 4294967296
