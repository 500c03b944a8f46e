-- The number, the layer and the faulty field of each refusal.
use Rattle.std.specs.Prelude.{◌≡◌, ℕ, List, codes}
use Rattle.fault.specs.declared.Layer.{Layer}
use Rattle.fault.specs.declared.Layer.TheVariants.{Text as text, Window as window, Order as order}
use Rattle.fault.specs.declared.OrderFault.{OrderFault}
use Rattle.fault.specs.declared.OrderFault.TheVariants.{Full, Present, Missing}
use Rattle.fault.specs.declared.WindowFault.{WindowFault}
use Rattle.fault.specs.declared.WindowFault.TheVariants.{Dimension, Knob, Width, Slot, Taken, Absent, Crossed, Stray, Short, Count}
use Rattle.fault.specs.declared.TextFault.{TextFault}
use Rattle.fault.specs.declared.TextFault.TheVariants.{Line, Letter, Fields, Digits, Size, Dimension as DimensionSize, Knob as KnobSize, Count as CountSize}
use Rattle.fault.specs.declared.SearchFault.{SearchFault}
use Rattle.fault.specs.declared.SearchFault.TheVariants.{Window, Order}
use Rattle.fault.specs.declared.LineFault.{LineFault}
use Rattle.fault.specs.declared.LineFault.TheVariants.{Text, Call}

abbrev pub layer_word : Layer → List ℕ
layer_word text = codes "text"
layer_word window = codes "window"
layer_word order = codes "order"

abbrev pub order_number : OrderFault → ℕ
order_number Full = 7
order_number Present = 12
order_number Missing = 13

abbrev pub window_number : WindowFault → ℕ
window_number Dimension = 1
window_number Knob = 2
window_number Width = 3
window_number Slot = 4
window_number Taken = 5
window_number Absent = 6
window_number Crossed = 8
window_number Stray = 9
window_number Short = 10
window_number Count = 11

-- a size of a number of places, of a knob or of a count of neighbours has the number that the call would give
abbrev pub text_number : TextFault → ℕ
text_number Line = 14
text_number Letter = 15
text_number Fields = 16
text_number (Digits f) = 17
text_number (Size f) = 18
text_number (DimensionSize f) = 1
text_number (KnobSize f) = 2
text_number (CountSize f) = 11

-- the faulty field, from 1; 0 where the line as a whole is at fault
abbrev pub text_field : TextFault → ℕ
text_field Line = 0
text_field Letter = 1
text_field Fields = 0
text_field (Digits f) = f
text_field (Size f) = f
text_field (DimensionSize f) = f
text_field (KnobSize f) = f
text_field (CountSize f) = f

abbrev pub search_number : SearchFault → ℕ
search_number (Window w) = window_number w
search_number (Order o) = order_number o

abbrev pub search_layer : SearchFault → Layer
search_layer (Window w) = window
search_layer (Order o) = order

abbrev pub line_number : LineFault → ℕ
line_number (Text t) = text_number t
line_number (Call s) = search_number s

abbrev pub line_layer : LineFault → Layer
line_layer (Text t) = text
line_layer (Call s) = search_layer s

abbrev pub line_field : LineFault → ℕ
line_field (Text t) = text_field t
line_field (Call s) = 0

-- a refused call is told by its number, and a refused line by its number, layer and field
abbrev pub NumbersTell : Type 0
NumbersTell = ((e f : SearchFault) → search_number e ≡ search_number f → e ≡ f)
    × ((e f : LineFault) → line_number e ≡ line_number f → line_layer e ≡ line_layer f → line_field e ≡ line_field f → e ≡ f)
