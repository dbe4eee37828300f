-- The files that a command reads, as a shelf gives them.
use Rattle.std.specs.Prelude.{◌≡◌, ◌≤◌, ◌<◌, ⊤, ℕ, List, length, Option, Some, None, IfSome}
use Rattle.rail_io.specs.Faults.{Rose}
use Rattle.host_catalogue.specs.declared.file.File.{File}
use Rattle.host_catalogue.specs.declared.file.File.TheVariants.{Catalogue, Export, Journal}
use Rattle.host_catalogue.specs.declared.file.LoadFault.{LoadFault}
use Rattle.host_catalogue.specs.declared.file.LoadFault.TheVariants.{Missing, TooLarge, Refused, RefusedExport}
use Rattle.host_catalogue.specs.declared.file.LoadFault.TheVariants.{Failed, NoMemory}

-- files by name, where a shelf tells them
abbrev pub Files : Type 0
Files = Option (List ℕ → Option (List ℕ))

-- the most bytes that a file may have
abbrev pub most_of : File → ℕ
most_of Catalogue = 33_554_432
most_of Export = 268_435_456
most_of Journal = 4_294_967_295

-- the text of the file, which isn't too large
pub record IsText (file : File) (files : List ℕ → Option (List ℕ)) (name text : List ℕ) : Type 0 where
  pub is : files name ≡ Some text
  pub few : length text ≤ most_of file

-- the file is there, and too large
pub record IsTooLarge (file : File) (files : List ℕ → Option (List ℕ)) (name : List ℕ) : Type 0 where
  pub text : List ℕ
  pub is : files name ≡ Some text
  pub many : most_of file < length text

abbrev pub IsTextOf : File → Files → List ℕ → List ℕ → Type 0
IsTextOf file told name text = IfSome told (λ files. IsText file files name text)

-- Why there is no text of the file with the name: by the files. A shelf's failure and lack of memory may come with any
-- files.
abbrev pub IsFileFault : File → Files → List ℕ → LoadFault → Type 0
IsFileFault file told name (Missing f) = (f ≡ file) × IfSome told (λ files. files name ≡ None)
IsFileFault file told name (TooLarge f) = (f ≡ file) × IfSome told (λ files. IsTooLarge file files name)
IsFileFault file told name Failed = ⊤
IsFileFault file told name NoMemory = ⊤
IsFileFault file told name (Refused fault) = ⊥
IsFileFault file told name (RefusedExport fault) = ⊥

-- What a load that gave nothing did to the shelf's counts of faults and of misses, each before and after. A failure of
-- the shelf is answered where its faults rose, or stand at their last value, and else they are as they were. A missing
-- or too large file is answered where its misses did.
abbrev pub HasCause : LoadFault → ℕ → ℕ → ℕ → ℕ → Type 0
HasCause (Missing f) failed fails missed misses = (fails ≡ failed) × Rose missed misses
HasCause (TooLarge f) failed fails missed misses = (fails ≡ failed) × Rose missed misses
HasCause (Refused fault) failed fails missed misses = fails ≡ failed
HasCause (RefusedExport fault) failed fails missed misses = fails ≡ failed
HasCause Failed failed fails missed misses = Rose failed fails
HasCause NoMemory failed fails missed misses = fails ≡ failed

-- a fact of a shelf's counts of faults and of misses, each before and after
abbrev pub OfCounts : {F : Type 0} → (F → ℕ) → (F → ℕ) → F → F → (ℕ → ℕ → ℕ → ℕ → Type 0) → Type 0
OfCounts faults misses old new P = P (faults old) (faults new) (misses old) (misses new)
