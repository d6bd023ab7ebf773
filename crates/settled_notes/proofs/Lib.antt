mod InOrder
mod NoLine
